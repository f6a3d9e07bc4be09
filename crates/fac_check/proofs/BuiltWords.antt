-- What the checker's definitions say of the words of whole programs.
use Rattle.std.proofs.Common.{◌≡◌, ◌⊎◌, ℕ, zero, suc, List, [], ◌∷◌, ◌++◌, length, Bool, true, Some, refl, sym, ap, subst, ◌∙◌}
use Rattle.std.specs.Prelude.{slice_get}
use mathlib.Core.Logic.{inl, inr}
use Rattle.fac_lang.specs.declared.program.Program.{Program}
use Rattle.fac_lang.specs.declared.program.WordDef.{WordDef}
use Rattle.fac_lang.specs.declared.program.Sort.{Sort}
use Rattle.fac_lang.specs.declared.program.Sort.TheVariants.{Prim as prim, Body as body}
use Rattle.fac_lang.specs.PrimitiveWords.{written_effect}
use Rattle.fac_lang.specs.Primitives.{Primitive, prim_numbered, is_built_primitive}
use Rattle.fac_lang.proofs.SourcePrograms.{IsSessionProgram, IsSortOf, IsPrimitiveWord, may_name, session_of_whole}
use Rattle.fac_lang.proofs.SessionWords.{sort_in}
use Rattle.fac_lang.specs.Whole.{IsWhole}
use Rattle.fac_check.proofs.PrimitivesKeep.{prim_found}

module _ {A : Type 0} where
  -- an element of a list with one more at its end
  pub at_or_last : (xs : List A) (y : A) (k : ℕ) (z : A) → slice_get (xs ++ y ∷ []) k ≡ Some z → (slice_get xs k ≡ Some z) ⊎ ((k ≡ length xs) × (y ≡ z))
  at_or_last [] y zero z e = inr (refl, cc)
  at_or_last [] y (suc k) z e = absurd (cc)
  at_or_last (x ∷ xs) y zero z e = inl e
  at_or_last (x ∷ xs) y (suc k) z e = more (at_or_last xs y k z e)
    where
      more : (slice_get xs k ≡ Some z) ⊎ ((k ≡ length xs) × (y ≡ z)) → (slice_get xs k ≡ Some z) ⊎ ((suc k ≡ suc (length xs)) × (y ≡ z))
      more (inl f) = inl f
      more (inr f) = inr (ap suc f.0, f.1)

-- the number of a primitive is that of a built one
abbrev pub HasBuiltNumber : Sort → Type 0
HasBuiltNumber (prim k) = is_built_primitive k ≡ true
HasBuiltNumber _ = Unit {0}

sort_numbered : (named : ℕ → Bool) (d : WordDef) (s : Sort) → IsSortOf named d s → HasBuiltNumber s
sort_numbered named d (prim k) h = h.is_built
sort_numbered named d _ h = tt

number_in : (P : Program) → IsSessionProgram P → (w : ℕ) (d : WordDef) → slice_get P.words w ≡ Some d → HasBuiltNumber d.sort
number_in P b w d e = which (at_or_last b.words b.last_word w d (subst (λ ws. slice_get ws w ≡ Some d) b.words_are e))
  where
    which : (slice_get b.words w ≡ Some d) ⊎ ((w ≡ length b.words) × (b.last_word ≡ d)) → HasBuiltNumber d.sort
    which (inl f) = sort_numbered (may_name P) d d.sort (sort_in (may_name P) b.words w d b.words_from_source f)
    which (inr f) = subst (λ (s : Sort). HasBuiltNumber s) (sym b.last_word_is.sort_is ∙ ap (λ (x : WordDef). x.sort) f.1) tt

pub built_number : (P : Program) → IsWhole P → (w : ℕ) (d : WordDef) → slice_get P.words w ≡ Some d → HasBuiltNumber d.sort
built_number P whole w d e = number_in P (session_of_whole P whole) w d e

primitive_so : (d : WordDef) (k : ℕ) → IsPrimitiveWord d k → (p : Primitive) × (prim_numbered k ≡ Some p) × (d.effect ≡ written_effect p.word)
primitive_so d k h = (let z = prim_found k h.row h.row_is in (z.0, z.1, h.effect_is ∙ ap written_effect (sym z.2)))

primitive_word_in : (P : Program) → IsSessionProgram P → (w : ℕ) (d : WordDef) → slice_get P.words w ≡ Some d → (k : ℕ) → d.sort ≡ prim k → (p : Primitive) × (prim_numbered k ≡ Some p) × (d.effect ≡ written_effect p.word)
primitive_word_in P b w d e k s = which (at_or_last b.words b.last_word w d (subst (λ ws. slice_get ws w ≡ Some d) b.words_are e))
  where
    which : (slice_get b.words w ≡ Some d) ⊎ ((w ≡ length b.words) × (b.last_word ≡ d)) → (p : Primitive) × (prim_numbered k ≡ Some p) × (d.effect ≡ written_effect p.word)
    which (inl f) = primitive_so d k (subst (λ x. IsSortOf (may_name P) d x) s (sort_in (may_name P) b.words w d b.words_from_source f))
    which (inr f) = absurd (let is_top_phrase = b.last_word_is in let body_sort : b.last_word.sort ≡ body b.phrase = is_top_phrase.sort_is in let prim_sort : b.last_word.sort ≡ prim k = subst (λ (x : WordDef). x.sort ≡ prim k) (sym f.1) s in cc)

-- a primitive word has the effect that is written for its primitive
pub built_primitive_word : (P : Program) → IsWhole P → (w : ℕ) (d : WordDef) → slice_get P.words w ≡ Some d → (k : ℕ) → d.sort ≡ prim k → (p : Primitive) × (prim_numbered k ≡ Some p) × (d.effect ≡ written_effect p.word)
built_primitive_word P whole w d e k s = primitive_word_in P (session_of_whole P whole) w d e k s
