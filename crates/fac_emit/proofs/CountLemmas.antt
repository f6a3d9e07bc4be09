-- Generics and numbers, word by word.
use Rattle.std.proofs.Common.{◌≡◌, ◌<◌, ◌≤◌, ℕ, zero, suc, ◌+◌, List, [], ◌∷◌, ◌++◌, length, drop, get_or, Some, refl, ap, sym, ◌∙◌, arith, append_assoc, add-one}
use Rattle.std.specs.Prelude.{take, slice_get, if◌then◌else◌}
use Rattle.fac_lang.specs.declared.program.Program.{Program}
use Rattle.fac_lang.specs.declared.program.WordDef.{WordDef}
use Rattle.fac_lang.specs.declared.program.Sort.{Sort}
use Rattle.fac_lang.specs.declared.program.Sort.TheVariants.{Generic as generic}
use Rattle.fac_lang.specs.Meaning.{sort_of}
use Rattle.fac_lang.specs.Whole.{is_generic}
use Rattle.fac_lang.proofs.FormsLemmas.{sort_at}
use Rattle.fac_locals.specs.declared.closing.Closed.{Closed}
use Rattle.fac_emit.specs.ProgramTables.{generics_among, generic_number, sort_number, numbers_from}
use Rattle.fac_emit.proofs.Closings.{get_at}
use Rattle.fac_emit.proofs.EmitLemmas.{next_of}

-- how many generics are among words
more_by : (s : Sort) (n : ℕ) → ◌≡◌ {A = ℕ} (elim s [ generic ↦ suc n | _ ↦ n ]) (n + (if is_generic (Some s) then 1 else 0))
more_by generic n = sym (add-one n)
more_by _ n = omega arith

front_by : (s : Sort) (n k : ℕ) → ◌≡◌ {A = ℕ} (elim s [ generic ↦ suc (n + k) | _ ↦ n + k ]) ((elim s [ generic ↦ suc n | _ ↦ n ]) + k)
front_by generic n k = omega arith
front_by _ n k = refl

few_by : (s : Sort) (n k : ℕ) → n ≤ k → (elim s [ generic ↦ suc n | _ ↦ n ]) ≤ suc k
few_by generic n k h = omega (arith, h)
few_by _ n k h = omega (arith, h)

one_more : (ds : List WordDef) (w : ℕ) (d : WordDef) → slice_get ds w ≡ Some d → generics_among (take (suc w) ds) ≡ generics_among (take w ds) + (if is_generic (Some d.sort) then 1 else 0)
one_more [] w d e = absurd (cc)
one_more (x ∷ ds) zero d e = let same : x ≡ d = cc in rw same (more_by d.sort 0)
one_more (x ∷ ds) (suc w) d e =
    ap (λ (n : ℕ). elim x.sort [ generic ↦ suc n | _ ↦ n ]) (one_more ds w d e) ∙ front_by x.sort (generics_among (take w ds)) (if is_generic (Some d.sort) then 1 else 0)

few : (ds : List WordDef) (w : ℕ) → generics_among (take w ds) ≤ w
few [] zero = omega arith
few [] (suc w) = omega arith
few (x ∷ ds) zero = omega arith
few (x ∷ ds) (suc w) = few_by x.sort (generics_among (take w ds)) w (few ds w)

-- a loop over the words
module _ (C : Closed) (i : ℕ) (word : WordDef) (items : List WordDef) (are : items ≡ C.program.words) (lt : i < length items) (is : word ≡ get_or items i word) where
  next_word : drop i C.program.words ≡ word ∷ drop (i + 1) C.program.words
  next_word = next_of C.program.words i word items are lt is

  pub word_at : slice_get C.program.words i ≡ Some word
  word_at = get_at C.program.words i word (drop (i + 1) C.program.words) next_word

  pub sort_there : (n : ℕ) → n ≡ i → sort_of C.program n ≡ Some word.sort
  sort_there n e = ap (sort_of C.program) e ∙ sort_at C.program i word word_at

  pub generics_step : (n g m : ℕ) → n ≡ i → g ≡ generic_number C.program n → m ≡ g + (if is_generic (Some word.sort) then 1 else 0) → m ≡ generic_number C.program (n + 1)
  generics_step n g m e h is_more =
      rw (e, add-one i) (is_more ∙ ap (λ (k : ℕ). k + (if is_generic (Some word.sort) then 1 else 0)) (h ∙ ap (generic_number C.program) e) ∙ sym (one_more C.program.words i word word_at))

  pub numbers_step : (n x : ℕ) (whole numbers pushed : List ℕ) → n ≡ i → whole ≡ numbers ++ numbers_from C n (drop i C.program.words) → x ≡ sort_number C n word.sort → pushed ≡ numbers ++ x ∷ [] → whole ≡ pushed ++ numbers_from C (n + 1) (drop (i + 1) C.program.words)
  numbers_step n x whole numbers pushed e all is_x is_pushed =
      rw (is_pushed, is_x, add-one n) (all ∙ ap (λ (ds : List WordDef). numbers ++ numbers_from C n ds) next_word ∙ sym (append_assoc numbers (sort_number C n word.sort ∷ []) (numbers_from C (suc n) (drop (i + 1) C.program.words))))

pub few_generics : (P : Program) (w : ℕ) → generic_number P w ≤ w
few_generics P w = few P.words w
