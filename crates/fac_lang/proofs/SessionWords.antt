-- The words of a whole program by their numbers, where it may have earlier top-level phrases.
use Rattle.std.proofs.Common.{◌≡◌, ◌<◌, ℕ, zero, suc, List, [], ◌∷◌, Bool, true, false, not, ◌&&◌, ◌||◌, Some, refl, ap, subst, ◌∙◌, sym, true≢false, arith}
use Rattle.std.proofs.lemmas.Bool.Decides.{Decides-ltb}
use Rattle.std.specs.Prelude.{nat_eq, nat_lt, slice_get}
use Rattle.fac_lang.specs.declared.program.Program.{Program}
use Rattle.fac_lang.specs.declared.program.WordDef.{WordDef}
use Rattle.fac_lang.specs.declared.program.Sort.TheVariants.{Body as body}
use Rattle.fac_lang.specs.Meaning.{sort_of, sort_phrase, word_phrase, is_past, is_top_phrase}
use Rattle.fac_lang.specs.Whole.{is_nameable}
use Rattle.fac_lang.proofs.SourcePrograms.{IsSessionProgram, IsSortOf, AreWordsOf, may_name, last_of}
use Rattle.fac_lang.proofs.FormsLemmas.{sort_at, get_front}

pub top_word : (P : Program) (b : IsSessionProgram P) → slice_get P.words P.top ≡ Some b.last_word
top_word P b = rw (b.words_are, b.top_is) (last_of b.words b.last_word)

pub top_sort : (P : Program) (b : IsSessionProgram P) → sort_of P P.top ≡ Some (body b.phrase)
top_sort P b = sort_at P P.top b.last_word (top_word P b) ∙ ap Some b.last_word_is.sort_is

pub phrase_of_top : (P : Program) (b : IsSessionProgram P) → word_phrase P P.top ≡ b.phrase
phrase_of_top P b = ap (sort_phrase P P.top) (top_sort P b)

pub sort_in : (named : ℕ → Bool) (ds : List WordDef) (w : ℕ) (d : WordDef) → AreWordsOf named ds → slice_get ds w ≡ Some d → IsSortOf named d d.sort
sort_in named [] w d h e = absurd (cc)
sort_in named (x ∷ ds) zero d h e = let same : x ≡ d = cc in subst (λ (d : WordDef). IsSortOf named d d.sort) same h.0
sort_in named (x ∷ ds) (suc w) d h e = sort_in named ds w d h.1 e

-- the word of a number below the top-level phrase's
pub record WordBelow (P : Program) (w : ℕ) : Type 0 where
  pub def : WordDef
  pub at : slice_get P.words w ≡ Some def
  pub from_source : IsSortOf (may_name P) def def.sort

pub word_below : (P : Program) → IsSessionProgram P → (w : ℕ) → w < P.top → WordBelow P w
word_below P b w lt = let front = get_front b.words (b.last_word ∷ []) w (omega (arith, b.top_is)) in record { def = front.0; at = rw b.words_are front.1; from_source = sort_in (may_name P) b.words w front.0 b.words_from_source front.2 }

-- What may be named stands before the top-level phrase, and is no earlier one.

both_true : (a b : Bool) → (a && b) ≡ true → (a ≡ true) × (b ≡ true)
both_true true b h = (refl, h)
both_true false b h = absurd (true≢false (sym h))

second_false : (a b : Bool) → (a || b) ≡ false → b ≡ false
second_false true b h = absurd (true≢false h)
second_false false b h = h

not_so : (a : Bool) → not a ≡ true → a ≡ false
not_so true h = absurd (true≢false (sym h))
not_so false h = refl

pub no_past : (P : Program) (w : ℕ) (d : WordDef) → slice_get P.words w ≡ Some d → is_top_phrase P w ≡ false → is_past (Some d.sort) ≡ false
no_past P w d e none = ap is_past (sym (sort_at P w d e)) ∙ second_false (nat_eq w P.top) (is_past (sort_of P w)) none

pub may_name_below : (P : Program) (w : ℕ) → may_name P w ≡ true → nat_lt w P.top ≡ true
may_name_below P w h = (both_true (nat_lt w P.top) (is_nameable P w) h).0

pub may_name_before : (P : Program) (w : ℕ) → may_name P w ≡ true → w < P.top
may_name_before P w h = (Decides-ltb w P.top).0 (may_name_below P w h)

pub may_name_no_phrase : (P : Program) (w : ℕ) → may_name P w ≡ true → is_top_phrase P w ≡ false
may_name_no_phrase P w h = not_so (is_top_phrase P w) (both_true (nat_lt w P.top) (is_nameable P w) h).1
