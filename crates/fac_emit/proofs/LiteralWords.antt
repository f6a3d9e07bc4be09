-- In which words the literals of a program stand.
use Rattle.std.proofs.Common.{◌≡◌, ◌<◌, ◌≤◌, ℕ, zero, suc, ◌+◌, List, [], ◌∷◌, ◌++◌, length, Option, Some, None, ap, subst, ◌∙◌, arith}
use Rattle.std.specs.Prelude.{slice_get}
use Rattle.fac_lang.specs.declared.program.Program.{Program}
use Rattle.fac_lang.specs.declared.program.WordDef.{WordDef}
use Rattle.fac_lang.specs.declared.program.Sort.{Sort}
use Rattle.fac_lang.specs.declared.program.Sort.TheVariants.{Body as body, Past as past, Method as method}
use Rattle.fac_lang.specs.Phrases.{Literal, Phrase, end, then, Item, lit_arr, quot, fry}
use Rattle.fac_lang.specs.Substitution.{of_method}
use Rattle.fac_lang.specs.Meaning.{nowhere}
use Rattle.fac_locals.specs.declared.cell.Cell.{Cell}
use Rattle.fac_locals.specs.Cells.{cells_behind, inner_cells}
use Rattle.fac_locals.specs.Literals.{first_of_word, first_of_literal, first_in_array, behind, Quoted, array_phrase, array_literals, literals_in, literals_at, sort_literals, word_literals, literals, literal_or, literal_numbered}

-- literals in words below a number
abbrev Below : ℕ → List Quoted → Type 0
Below n [] = Unit {0}
Below n (l ∷ ls) = (l.at.word < n) × Below n ls

both_below : (n : ℕ) (ks ls : List Quoted) → Below n ks → Below n ls → Below n (ks ++ ls)
both_below n [] ls h k = k
both_below n (l ∷ ks) ls h k = (h.0, both_below n ks ls h.1 k)

module _ (n : ℕ) (arrays : ℕ → Literal → List Quoted) (arrays_below : (a : ℕ) (at : Literal) → at.word < n → Below n (arrays a at)) where
  mutual
    phrase_below : (cells : List Cell) (at : Literal) (t : Phrase) → at.word < n → Below n (literals_in arrays cells at t)
    phrase_below cells at end h = tt
    phrase_below cells at (then i p t) h = both_below n (literals_at arrays cells at i) (literals_in arrays (cells_behind cells i) (behind at i) t) (item_below cells at i h) (phrase_below (cells_behind cells i) (behind at i) t h)

    item_below : (cells : List Cell) (at : Literal) (i : Item) → at.word < n → Below n (literals_at arrays cells at i)
    item_below cells at (quot t) h = (h, phrase_below (inner_cells cells (quot t)) (first_of_literal at) t h)
    item_below cells at (fry t k) h = (h, phrase_below (inner_cells cells (fry t k)) (first_of_literal at) t h)
    item_below cells at (lit_arr a) h = arrays_below a at h
    item_below cells at _ h = tt

-- those of arrays stand in the word of the array
array_below : (P : Program) (n m a : ℕ) (at : Literal) → at.word < n → Below n (array_literals P m a at)
array_below P n zero a at h = tt
array_below P n (suc m) a at h = phrase_below n (array_literals P m) (array_below P n m) [] (first_in_array at) (array_phrase P a nowhere) h

sort_below : (P : Program) (n w : ℕ) (s : Sort) → w < n → Below n (sort_literals P w s)
sort_below P n w (body t) h = phrase_below n (array_literals P (length P.arrays)) (array_below P n (length P.arrays)) [] (first_of_word w) t h
sort_below P n w (past t) h = phrase_below n (array_literals P (length P.arrays)) (array_below P n (length P.arrays)) [] (first_of_word w) t h
sort_below P n w (method c g t) h = phrase_below n (array_literals P (length P.arrays)) (array_below P n (length P.arrays)) [] (first_of_word w) (of_method w t) h
sort_below P n w _ h = tt

words_below : (P : Program) (n w : ℕ) (ds : List WordDef) → w + length ds ≤ n → Below n (word_literals P w ds)
words_below P n w [] h = tt
words_below P n w (d ∷ ds) h = both_below n (sort_literals P w d.sort) (word_literals P (suc w) ds) (sort_below P n w d.sort (omega arith)) (words_below P n (suc w) ds (omega arith))

get_below : (n : ℕ) (ls : List Quoted) (k : ℕ) (l : Quoted) → Below n ls → slice_get ls k ≡ Some l → l.at.word < n
get_below n [] k l h e = absurd (cc)
get_below n (m ∷ ls) zero l h e = let same : m ≡ l = cc in subst (λ (q : Quoted). q.at.word < n) same h.0
get_below n (m ∷ ls) (suc k) l h e = get_below n ls k l h.1 e

module _ (P : Program) where
  -- a literal stands in a word
  pub in_a_word : (k : ℕ) (l : Quoted) → slice_get (literals P) k ≡ Some l → l.at.word < length P.words
  in_a_word k l e = get_below (length P.words) (literals P) k l (words_below P (length P.words) 0 P.words (omega arith)) e

  found : (k : ℕ) (l : Quoted) (o : Option Quoted) → l.at.word < length P.words → literal_or P k o ≡ l → o ≡ Some l
  found k l (Some m) lt e = ap Some e
  found k l None lt e = let n : length P.words ≡ l.at.word = ap (λ (q : Quoted). q.at.word) e in absurd (omega (arith, n, lt))

  -- and one that stands in a word is in the list
  pub is_listed : (k : ℕ) (l : Quoted) → l.at.word < length P.words → literal_numbered P k ≡ l → slice_get (literals P) k ≡ Some l
  is_listed k l lt e = found k l (slice_get (literals P) k) lt e

  around_found : (k : ℕ) (l : Quoted) (i : ℕ) (is : List ℕ) (o : Option Quoted) → l.at.around ≡ i ∷ is → literal_or P k o ≡ l → o ≡ Some l
  around_found k l i is (Some m) a e = ap Some e
  around_found k l i is None a e = let n : [] ≡ l.at.around = ap (λ (q : Quoted). q.at.around) e in absurd (let clash : [] ≡ i ∷ is = n ∙ a in cc)

  -- and so is one that stands in an array
  pub is_listed_in_array : (k : ℕ) (l : Quoted) (i : ℕ) (is : List ℕ) → l.at.around ≡ i ∷ is → literal_numbered P k ≡ l → slice_get (literals P) k ≡ Some l
  is_listed_in_array k l i is a e = around_found k l i is (slice_get (literals P) k) a e
