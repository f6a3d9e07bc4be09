-- Each quotation in a phrase of a program has a number below that of its templates.
use Rattle.std.proofs.Common.{◌≡◌, ◌<◌, ◌≤◌, ℕ, zero, suc, ◌+◌, List, [], ◌∷◌, ◌++◌, length, true, Option, Some, None, refl, sym, ap, ◌∙◌, arith}
use Rattle.std.specs.Prelude.{nat_lt, slice_get}
use Rattle.fac_lang.specs.Phrases.{Literal, Phrase, end, then, Item, lit, lit_arr, quot, word, bind, local, fry, hole, call_effect, execute_effect, next_method, made, next_after, held, known}
use Rattle.fac_lang.specs.Substitution.{of_method}
use Rattle.fac_lang.specs.declared.phrase.Template.{Template}
use Rattle.fac_lang.specs.declared.program.Program.{Program}
use Rattle.fac_lang.specs.declared.program.WordDef.{WordDef}
use Rattle.fac_lang.specs.declared.program.Sort.{Sort}
use Rattle.fac_lang.specs.declared.program.Sort.TheVariants.{Prim as prim, Core as core, Body as body, Past as past, Itself as itself, Class as class, Isa as isa, Getter as getter, Setter as setter, Putter as putter, Generic as generic, Method as method}
use Rattle.fac_locals.specs.declared.cell.Cell.{Cell}
use Rattle.fac_locals.specs.Cells.{cells_behind, inner_cells}
use Rattle.fac_locals.specs.Literals.{Quoted, first_of_word, first_of_literal, first_in_array, behind, array_phrase, array_literals, literals_in, literals_at, sort_literals, word_literals, literals, literal_or, literal_numbered}
use Rattle.fac_lang.specs.Meaning.{nowhere}
use Rattle.fac_locals.specs.Closed.{Closes, IsMadeBy}
use Rattle.fac_locals.proofs.Lookups.{templates_count}
use Rattle.fac_abs.proofs.SeenLemmas.{below_is}
use Rattle.fac_check.proofs.NamedWords.{number_below}

-- literals in phrases of words with numbers below n
abbrev AreOfWords : ℕ → List Quoted → Type 0
AreOfWords n [] = Unit {0}
AreOfWords n (l ∷ ls) = (l.at.word < n) × AreOfWords n ls

both_of_words : (n : ℕ) (ls ms : List Quoted) → AreOfWords n ls → AreOfWords n ms → AreOfWords n (ls ++ ms)
both_of_words n [] ms h k = k
both_of_words n (l ∷ ls) ms h k = (h.0, both_of_words n ls ms h.1 k)

module _ (n : ℕ) where
  -- where the literals of an array that stands in one of the first words are of these words
  module _ (arrays : ℕ → Literal → List Quoted) (arrays_of_words : (a : ℕ) (at : Literal) → at.word < n → AreOfWords n (arrays a at)) where
    mutual
      phrase_of_words : (cells : List Cell) (at : Literal) (t : Phrase) → at.word < n → AreOfWords n (literals_in arrays cells at t)
      phrase_of_words cells at end l = tt
      phrase_of_words cells at (then i p t) l = both_of_words n (literals_at arrays cells at i) (literals_in arrays (cells_behind cells i) (behind at i) t) (item_of_words cells at i l) (phrase_of_words (cells_behind cells i) (behind at i) t l)

      item_of_words : (cells : List Cell) (at : Literal) (i : Item) → at.word < n → AreOfWords n (literals_at arrays cells at i)
      item_of_words cells at (quot t) l = (l, phrase_of_words (inner_cells cells (quot t)) (first_of_literal at) t l)
      item_of_words cells at (fry t k) l = (l, phrase_of_words (inner_cells cells (fry t k)) (first_of_literal at) t l)
      item_of_words cells at (lit_arr a) l = arrays_of_words a at l
      item_of_words cells at (lit q) l = tt
      item_of_words cells at (word w) l = tt
      item_of_words cells at (bind x) l = tt
      item_of_words cells at (local x) l = tt
      item_of_words cells at (hole k) l = tt
      item_of_words cells at (call_effect f) l = tt
      item_of_words cells at (execute_effect f) l = tt
      item_of_words cells at next_method l = tt
      item_of_words cells at (made k) l = tt
      item_of_words cells at (next_after m) l = tt
      item_of_words cells at (held v) l = tt
      item_of_words cells at (known m) l = tt

  module _ (P : Program) where
    array_of_words : (k a : ℕ) (at : Literal) → at.word < n → AreOfWords n (array_literals P k a at)
    array_of_words zero a at l = tt
    array_of_words (suc k) a at l = phrase_of_words (array_literals P k) (array_of_words k) [] (first_in_array at) (array_phrase P a nowhere) l

    own_phrase : (at : Literal) (t : Phrase) → at.word < n → AreOfWords n (literals_in (array_literals P (length P.arrays)) [] at t)
    own_phrase = phrase_of_words (array_literals P (length P.arrays)) (array_of_words (length P.arrays)) []

    sort_of_words : (w : ℕ) (s : Sort) → w < n → AreOfWords n (sort_literals P w s)
    sort_of_words w (body t) l = own_phrase (first_of_word w) t l
    sort_of_words w (past t) l = own_phrase (first_of_word w) t l
    sort_of_words w (method c g t) l = own_phrase (first_of_word w) (of_method w t) l
    sort_of_words w (prim k) l = tt
    sort_of_words w (core k) l = tt
    sort_of_words w itself l = tt
    sort_of_words w (class k) l = tt
    sort_of_words w (isa k) l = tt
    sort_of_words w (getter x) l = tt
    sort_of_words w (setter x) l = tt
    sort_of_words w (putter x) l = tt
    sort_of_words w generic l = tt

    words_of_words : (w : ℕ) (ds : List WordDef) → w + length ds ≤ n → AreOfWords n (word_literals P w ds)
    words_of_words w [] l = tt
    words_of_words w (d ∷ ds) l = both_of_words n (sort_literals P w d.sort) (word_literals P (suc w) ds) (sort_of_words w d.sort (omega (arith, l))) (words_of_words (suc w) ds (omega (arith, l)))

  at_of_words : (ls : List Quoted) (k : ℕ) (l : Quoted) → AreOfWords n ls → slice_get ls k ≡ Some l → l.at.word < n
  at_of_words [] k l h e = absurd cc
  at_of_words (m ∷ ls) zero l h e = let same : m ≡ l = cc in rw (← same) h.0
  at_of_words (m ∷ ls) (suc k) l h e = at_of_words ls k l h.1 e

some_below : {A : Type 0} (xs : List A) (k : ℕ) → k < length xs → (x : A) × (slice_get xs k ≡ Some x)
some_below [] k l = absurd (omega (arith, l))
some_below (x ∷ xs) zero l = (x, refl)
some_below (x ∷ xs) (suc k) l = some_below xs k (omega (arith, l))

module _ (P C : Program) (templates : List Template) (closes : Closes P C templates) where
  -- a template's literal is in the phrase of a word
  pub template_of_words : (k : ℕ) (t : Template) → slice_get templates k ≡ Some t → (literal_numbered P k).at.word < length P.words
  template_of_words k t e =
      let low = number_below templates k t e in
      let many = templates_count P C templates closes in
      let there = some_below (literals P) k (omega (arith, low, many)) in
      let found = at_of_words (length P.words) (literals P) k there.0 (words_of_words (length P.words) P 0 P.words (omega arith)) there.1 in
      rw there.1 found

  -- a quotation in such a phrase is made by a template that is there
  pub made_there : (cells : List Cell) (at : Literal) (i : Item) (k : ℕ) → at.word < length P.words → IsMadeBy P cells at i k → nat_lt k (length templates) ≡ true
  made_there cells at i k l is = by_literal (slice_get (literals P) k) refl
    where
      by_literal : (o : Option Quoted) → slice_get (literals P) k ≡ o → nat_lt k (length templates) ≡ true
      by_literal (Some q) e =
          let low = number_below (literals P) k q e in
          let many = templates_count P C templates closes in
          below_is k (length templates) (omega (arith, low, many))
      by_literal None e =
          let outside : length P.words ≡ at.word = ap (λ (q : Quoted). q.at.word) (sym (ap (literal_or P k) e)) ∙ ap (λ (q : Quoted). q.at.word) is in
          absurd (omega (arith, outside, l))
