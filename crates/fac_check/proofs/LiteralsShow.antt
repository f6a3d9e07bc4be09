-- Each literal of a whole program shows the cells under which it begins.
use Rattle.std.proofs.Common.{◌≡◌, ℕ, zero, suc, List, [], ◌∷◌, ◌++◌, length, map, Bool, true, ◌&&◌, Option, Some, None, refl, sym, ap, ◌∙◌}
use Rattle.std.proofs.lemmas.List.Folds.{list_all-append}
use Rattle.std.specs.Prelude.{slice_get, ◌||◌}
use Rattle.std.specs.List.{list_all}
use Rattle.fac_base.specs.declared.place.Place.{Place}
use Rattle.fac_lang.specs.declared.program.Program.{Program}
use Rattle.fac_lang.specs.declared.program.WordDef.{WordDef}
use Rattle.fac_lang.specs.declared.program.Lit.{Lit}
use Rattle.fac_lang.specs.declared.program.Lit.TheVariants.{Int as l_int, True as l_yes, False as l_no, Str as l_str, Arr as l_arr, Wref as l_word, Quot as l_quot, Made as l_made}
use Rattle.fac_lang.specs.declared.program.Sort.{Sort}
use Rattle.fac_lang.specs.declared.program.Sort.TheVariants.{Body as body, Past as past, Method as method}
use Rattle.fac_lang.specs.Phrases.{Literal, Phrase, end, then, Item, lit_arr, quot, fry}
use Rattle.fac_lang.specs.Substitution.{of_method, of_method_item}
use Rattle.fac_lang.proofs.SourcePrograms.{session_of_whole}
use Rattle.fac_lang.specs.Meaning.{of_method_if, array_method, nowhere}
use Rattle.fac_lang.specs.Whole.{IsWhole, each_item, each_inner, has_hole, item_has_hole, has_holes, has_its_holes, word_phrases, quotations, joined}
use Rattle.fac_locals.specs.declared.cell.Cell.{Cell}
use Rattle.fac_locals.specs.Cells.{cells_behind, inner_cells}
use Rattle.fac_locals.specs.Literals.{Quoted, quoted_phrase, behind, first_of_word, first_of_literal, first_in_array, elements_phrase, array_or_none, array_phrase, literals_in, literals_at, array_literals, sort_literals, word_literals, literals, literal_or, literal_numbered}
use Rattle.fac_abs.proofs.EqualMarks.{and_first, and_second}
use Rattle.fac_check.proofs.ShownCells.{ShowsAll, shows_by}
use Rattle.fac_check.proofs.NamedLiterals.{ShowsCells}
use Rattle.fac_check.proofs.ShownLiterals.{quotation_shows, fry_shows, no_shows}

-- in each fry of a phrase each of its holes stands
abbrev mutual
  HolesStand : Phrase → Type 0
  HolesStand end = Unit {0}
  HolesStand (then i p t) = HolesStandIn i × HolesStand t

  HolesStandIn : Item → Type 0
  HolesStandIn (quot t) = HolesStand t
  HolesStandIn (fry t n) = (has_holes n t ≡ true) × HolesStand t
  HolesStandIn _ = Unit {0}

mutual
  standing : (t : Phrase) → each_item has_its_holes t ≡ true → HolesStand t
  standing end h = tt
  standing (then i p t) h =
      let q = and_first (has_its_holes i && each_inner has_its_holes i) (each_item has_its_holes t) h in
      (standing_in i (and_first (has_its_holes i) (each_inner has_its_holes i) q) (and_second (has_its_holes i) (each_inner has_its_holes i) q), standing t (and_second (has_its_holes i && each_inner has_its_holes i) (each_item has_its_holes t) h))

  standing_in : (i : Item) → has_its_holes i ≡ true → each_inner has_its_holes i ≡ true → HolesStandIn i
  standing_in (quot t) h k = standing t k
  standing_in (fry t n) h k = (h, standing t k)
  standing_in _ h k = tt

-- in a method too
mutual
  method_hole : (m k : ℕ) (t : Phrase) → has_hole k (of_method m t) ≡ has_hole k t
  method_hole m k end = refl
  method_hole m k (then i p t) = ap (λ (b : Bool). b || has_hole k (of_method m t)) (method_item_hole m k i) ∙ ap (λ (b : Bool). item_has_hole k i || b) (method_hole m k t)

  method_item_hole : (m k : ℕ) (i : Item) → item_has_hole k (of_method_item m i) ≡ item_has_hole k i
  method_item_hole m k (quot t) = method_hole m k t
  method_item_hole m k _ = refl

method_holes : (m n : ℕ) (t : Phrase) → has_holes n (of_method m t) ≡ has_holes n t
method_holes m zero t = refl
method_holes m (suc n) t = ap (λ (b : Bool). b && has_hole n (of_method m t)) (method_holes m n t) ∙ ap (λ (b : Bool). has_holes n t && b) (method_hole m n t)

mutual
  method_stands : (m : ℕ) (t : Phrase) → HolesStand t → HolesStand (of_method m t)
  method_stands m end h = tt
  method_stands m (then i p t) h = (method_item_stands m i h.0, method_stands m t h.1)

  method_item_stands : (m : ℕ) (i : Item) → HolesStandIn i → HolesStandIn (of_method_item m i)
  method_item_stands m (quot t) h = method_stands m t h
  method_item_stands m (fry t n) h = (method_holes m n t ∙ h.0, method_stands m t h.1)
  method_item_stands m _ h = tt

method_if_stands : (m : Option ℕ) (t : Phrase) → HolesStand t → HolesStand (of_method_if m t)
method_if_stands None t h = h
method_if_stands (Some m) t h = method_stands m t h

elements_stand : (m : Option ℕ) (p : Place) (ls : List Lit) → list_all (each_item has_its_holes) (quotations ls) ≡ true → HolesStand (elements_phrase m p ls)
elements_stand m p [] h = tt
elements_stand m p (l_int z ∷ ls) h = (tt, elements_stand m p ls h)
elements_stand m p (l_yes ∷ ls) h = (tt, elements_stand m p ls h)
elements_stand m p (l_no ∷ ls) h = (tt, elements_stand m p ls h)
elements_stand m p (l_str bs ∷ ls) h = (tt, elements_stand m p ls h)
elements_stand m p (l_word w ∷ ls) h = (tt, elements_stand m p ls h)
elements_stand m p (l_made j ∷ ls) h = (tt, elements_stand m p ls h)
elements_stand m p (l_arr a ∷ ls) h = (tt, elements_stand m p ls h)
elements_stand m p (l_quot t ∷ ls) h =
    (method_if_stands m t (standing t (and_first (each_item has_its_holes t) (list_all (each_item has_its_holes) (quotations ls)) h)), elements_stand m p ls (and_second (each_item has_its_holes t) (list_all (each_item has_its_holes) (quotations ls)) h))

abbrev SortStands : ℕ → Sort → Type 0
SortStands w (body t) = HolesStand t
SortStands w (past t) = HolesStand t
SortStands w (method c g t) = HolesStand (of_method w t)
SortStands w _ = Unit {0}

with_rest : (w : ℕ) (s : Sort) (rest : List Phrase) → list_all (each_item has_its_holes) (elim s [ body t ↦ t ∷ rest | past t ↦ t ∷ rest | method c g t ↦ t ∷ rest | _ ↦ rest ]) ≡ true → SortStands w s × (list_all (each_item has_its_holes) rest ≡ true)
with_rest w (body t) rest h = (standing t (and_first (each_item has_its_holes t) (list_all (each_item has_its_holes) rest) h), and_second (each_item has_its_holes t) (list_all (each_item has_its_holes) rest) h)
with_rest w (past t) rest h = (standing t (and_first (each_item has_its_holes t) (list_all (each_item has_its_holes) rest) h), and_second (each_item has_its_holes t) (list_all (each_item has_its_holes) rest) h)
with_rest w (method c g t) rest h = (method_stands w t (standing t (and_first (each_item has_its_holes t) (list_all (each_item has_its_holes) rest) h)), and_second (each_item has_its_holes t) (list_all (each_item has_its_holes) rest) h)
with_rest w _ rest h = (tt, h)

split_arrays : (ls : List Lit) (lss : List (List Lit)) → list_all (each_item has_its_holes) (joined (map quotations (ls ∷ lss))) ≡ true → (list_all (each_item has_its_holes) (quotations ls) && list_all (each_item has_its_holes) (joined (map quotations lss))) ≡ true
split_arrays ls lss h = sym (list_all-append (each_item has_its_holes) (quotations ls) (joined (map quotations lss))) ∙ h

array_stands : (lss : List (List Lit)) (a : ℕ) → list_all (each_item has_its_holes) (joined (map quotations lss)) ≡ true → list_all (each_item has_its_holes) (quotations (array_or_none (slice_get lss a))) ≡ true
array_stands [] a h = refl
array_stands (ls ∷ lss) zero h = and_first (list_all (each_item has_its_holes) (quotations ls)) (list_all (each_item has_its_holes) (joined (map quotations lss))) (split_arrays ls lss h)
array_stands (ls ∷ lss) (suc a) h = array_stands lss a (and_second (list_all (each_item has_its_holes) (quotations ls)) (list_all (each_item has_its_holes) (joined (map quotations lss))) (split_arrays ls lss h))

-- literals
abbrev Shows : Quoted → Type 0
Shows l = ShowsAll (inner_cells l.cells l.item) (quoted_phrase l)

abbrev EachShows : List Quoted → Type 0
EachShows [] = Unit {0}
EachShows (l ∷ ls) = Shows l × EachShows ls

both_show : (ls ms : List Quoted) → EachShows ls → EachShows ms → EachShows (ls ++ ms)
both_show [] ms h k = k
both_show (l ∷ ls) ms h k = (h.0, both_show ls ms h.1 k)

module _ (arrays : ℕ → Literal → List Quoted) (arrays_show : (a : ℕ) (at : Literal) → EachShows (arrays a at)) where
  mutual
    phrase_literals : (cells : List Cell) (at : Literal) (t : Phrase) → HolesStand t → EachShows (literals_in arrays cells at t)
    phrase_literals cells at end h = tt
    phrase_literals cells at (then i p t) h = both_show (literals_at arrays cells at i) (literals_in arrays (cells_behind cells i) (behind at i) t) (item_literals cells at i h.0) (phrase_literals (cells_behind cells i) (behind at i) t h.1)

    item_literals : (cells : List Cell) (at : Literal) (i : Item) → HolesStandIn i → EachShows (literals_at arrays cells at i)
    item_literals cells at (quot t) h = (quotation_shows cells t, phrase_literals (inner_cells cells (quot t)) (first_of_literal at) t h)
    item_literals cells at (fry t n) h = (fry_shows cells t n h.0, phrase_literals (inner_cells cells (fry t n)) (first_of_literal at) t h.1)
    item_literals cells at (lit_arr a) h = arrays_show a at
    item_literals cells at _ h = tt

module _ (P : Program) (whole : IsWhole P) where
  split_phrases : (list_all (each_item has_its_holes) (word_phrases P.words) && list_all (each_item has_its_holes) (joined (map quotations P.arrays))) ≡ true
  split_phrases = sym (list_all-append (each_item has_its_holes) (word_phrases P.words) (joined (map quotations P.arrays))) ∙ whole.holes_stand

  words_pass : list_all (each_item has_its_holes) (word_phrases P.words) ≡ true
  words_pass = and_first (list_all (each_item has_its_holes) (word_phrases P.words)) (list_all (each_item has_its_holes) (joined (map quotations P.arrays))) split_phrases

  arrays_pass : list_all (each_item has_its_holes) (joined (map quotations P.arrays)) ≡ true
  arrays_pass = and_second (list_all (each_item has_its_holes) (word_phrases P.words)) (list_all (each_item has_its_holes) (joined (map quotations P.arrays))) split_phrases

  array_phrase_stands : (a : ℕ) (p : Place) → HolesStand (array_phrase P a p)
  array_phrase_stands a p = elements_stand (array_method P (length P.arrays) a) p (array_or_none (slice_get P.arrays a)) (array_stands P.arrays a arrays_pass)

  array_literals_show : (n a : ℕ) (at : Literal) → EachShows (array_literals P n a at)
  array_literals_show zero a at = tt
  array_literals_show (suc n) a at = phrase_literals (array_literals P n) (array_literals_show n) [] (first_in_array at) (array_phrase P a nowhere) (array_phrase_stands a nowhere)

  sort_literals_show : (w : ℕ) (s : Sort) → SortStands w s → EachShows (sort_literals P w s)
  sort_literals_show w (body t) h = phrase_literals (array_literals P (length P.arrays)) (array_literals_show (length P.arrays)) [] (first_of_word w) t h
  sort_literals_show w (past t) h = phrase_literals (array_literals P (length P.arrays)) (array_literals_show (length P.arrays)) [] (first_of_word w) t h
  sort_literals_show w (method c g t) h = phrase_literals (array_literals P (length P.arrays)) (array_literals_show (length P.arrays)) [] (first_of_word w) (of_method w t) h
  sort_literals_show w _ h = tt

  word_literals_show : (w : ℕ) (ds : List WordDef) → list_all (each_item has_its_holes) (word_phrases ds) ≡ true → EachShows (word_literals P w ds)
  word_literals_show w [] h = tt
  word_literals_show w (d ∷ ds) h = let first = with_rest w d.sort (word_phrases ds) h in both_show (sort_literals P w d.sort) (word_literals P (suc w) ds) (sort_literals_show w d.sort first.0) (word_literals_show (suc w) ds first.1)

  literal_shows_at : (n k : ℕ) (ls : List Quoted) → EachShows ls → Shows (literal_or P n (slice_get ls k))
  literal_shows_at n k [] h = no_shows
  literal_shows_at n zero (l ∷ ls) h = h.0
  literal_shows_at n (suc k) (l ∷ ls) h = literal_shows_at n k ls h.1

  pub literal_shows : (k : ℕ) → Shows (literal_numbered P k)
  literal_shows k = literal_shows_at k k (literals P) (word_literals_show 0 P.words words_pass)

pub shows_cells : (P : Program) → IsWhole P → ShowsCells P
shows_cells P whole = shows_by P (session_of_whole P whole) (λ k. literal_shows P whole k)
