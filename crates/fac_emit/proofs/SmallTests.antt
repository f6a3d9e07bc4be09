-- What the items of a whole program test is small, also in the phrases of its literals, and so in those of a closed program.
use Rattle.std.proofs.Common.{◌≡◌, ℕ, zero, suc, List, [], ◌∷◌, ◌++◌, length, map, Bool, true, false, ◌&&◌, Option, Some, None, refl, sym, subst, ◌∙◌}
use Rattle.std.proofs.lemmas.Bool.{and_parts}
use Rattle.std.proofs.lemmas.List.Folds.{list_all-append}
use Rattle.std.specs.Prelude.{slice_get}
use Rattle.std.specs.List.{list_all}
use Rattle.fac_base.specs.declared.place.Place.{Place}
use Rattle.fac_lang.specs.declared.phrase.Template.{Template}
use Rattle.fac_lang.specs.declared.program.Program.{Program}
use Rattle.fac_lang.specs.declared.program.WordDef.{WordDef}
use Rattle.fac_lang.specs.declared.program.Lit.{Lit}
use Rattle.fac_lang.specs.declared.program.Lit.TheVariants.{Int as l_int, True as l_yes, False as l_no, Str as l_str, Arr as l_arr, Wref as l_word, Quot as l_quot, Made as l_made}
use Rattle.fac_lang.specs.declared.program.Sort.{Sort}
use Rattle.fac_lang.specs.declared.program.Sort.TheVariants.{Body as body, Past as past, Method as method}
use Rattle.fac_lang.specs.Phrases.{Literal, Phrase, end, then, Item, lit, lit_arr, quot, word, bind, local, fry, hole, call_effect, execute_effect, next_method, made, next_after, held, known}
use Rattle.fac_lang.specs.Substitution.{of_method, of_method_item}
use Rattle.fac_lang.specs.Meaning.{of_method_if, array_method, nowhere}
use Rattle.fac_lang.specs.Whole.{IsWhole, each_item, each_inner, is_small, tests_small, word_phrases, quotations, joined}
use Rattle.fac_locals.specs.declared.cell.Cell.{Cell}
use Rattle.fac_locals.specs.declared.closing.Closed.{Closed}
use Rattle.fac_locals.specs.Cells.{cells_behind, inner_cells}
use Rattle.fac_locals.specs.Closed.{Closes, ClosesItem, ClosesPhrase, ClosesSort}
use Rattle.fac_locals.specs.Literals.{Quoted, quoted_phrase, behind, first_of_word, first_of_literal, first_in_array, elements_phrase, array_or_none, array_phrase, literals_in, literals_at, array_literals, sort_literals, word_literals, literals, literal_or, literal_numbered}
use Rattle.fac_locals.proofs.Lookups.{word_open, template_closed}

-- each item that tests an effect tests a small one, in quotations and fry bodies too
abbrev mutual
  pub AreSmall : Phrase → Type 0
  AreSmall end = Unit {0}
  AreSmall (then i p t) = IsSmall i × AreSmall t

  pub IsSmall : Item → Type 0
  IsSmall (call_effect h) = is_small h ≡ true
  IsSmall (execute_effect h) = is_small h ≡ true
  IsSmall (quot t) = AreSmall t
  IsSmall (fry t n) = AreSmall t
  IsSmall _ = Unit {0}

mutual
  tested : (t : Phrase) → each_item tests_small t ≡ true → AreSmall t
  tested end h = tt
  tested (then i p t) h =
      let first = and_parts (tests_small i && each_inner tests_small i) (each_item tests_small t) h in
      let own = and_parts (tests_small i) (each_inner tests_small i) first.0 in
      (tested_item i own.0 own.1, tested t first.1)

  tested_item : (i : Item) → tests_small i ≡ true → each_inner tests_small i ≡ true → IsSmall i
  tested_item (call_effect g) h k = h
  tested_item (execute_effect g) h k = h
  tested_item (quot t) h k = tested t k
  tested_item (fry t n) h k = tested t k
  tested_item _ h k = tt

-- in a method too
mutual
  method_small : (m : ℕ) (t : Phrase) → AreSmall t → AreSmall (of_method m t)
  method_small m end h = tt
  method_small m (then i p t) h = (method_item_small m i h.0, method_small m t h.1)

  method_item_small : (m : ℕ) (i : Item) → IsSmall i → IsSmall (of_method_item m i)
  method_item_small m (call_effect g) h = h
  method_item_small m (execute_effect g) h = h
  method_item_small m (quot t) h = method_small m t h
  method_item_small m (fry t n) h = method_small m t h
  method_item_small m _ h = tt

method_if_small : (m : Option ℕ) (t : Phrase) → AreSmall t → AreSmall (of_method_if m t)
method_if_small None t h = h
method_if_small (Some m) t h = method_small m t h

-- the phrase of a word as it runs
abbrev pub IsSmallSort : ℕ → Sort → Type 0
IsSmallSort w (body t) = AreSmall t
IsSmallSort w (past t) = AreSmall t
IsSmallSort w (method c g t) = AreSmall (of_method w t)
IsSmallSort w _ = Unit {0}

abbrev AllTested : List Phrase → Type 0
AllTested ts = list_all (each_item tests_small) ts ≡ true

first_tested : (t : Phrase) (ts : List Phrase) → AllTested (t ∷ ts) → AreSmall t × AllTested ts
first_tested t ts h = let parts = and_parts (each_item tests_small t) (list_all (each_item tests_small) ts) h in (tested t parts.0, parts.1)

with_rest : (w : ℕ) (s : Sort) (rest : List Phrase) → AllTested (elim s [ body t ↦ t ∷ rest | past t ↦ t ∷ rest | method c g t ↦ t ∷ rest | _ ↦ rest ]) → IsSmallSort w s × AllTested rest
with_rest w (body t) rest h = first_tested t rest h
with_rest w (past t) rest h = first_tested t rest h
with_rest w (method c g t) rest h = let parts = first_tested t rest h in (method_small w t parts.0, parts.1)
with_rest w _ rest h = (tt, h)

word_small_at : (v : ℕ) (ds : List WordDef) (w : ℕ) (d : WordDef) → AllTested (word_phrases ds) → slice_get ds w ≡ Some d → IsSmallSort v d.sort
word_small_at v [] w d h e = absurd (cc)
word_small_at v (x ∷ ds) zero d h e = let same : x ≡ d = cc in subst (λ (y : WordDef). IsSmallSort v y.sort) same (with_rest v x.sort (word_phrases ds) h).0
word_small_at v (x ∷ ds) (suc w) d h e = word_small_at v ds w d (with_rest v x.sort (word_phrases ds) h).1 e

-- literals
abbrev AllSmall : List Quoted → Type 0
AllSmall [] = Unit {0}
AllSmall (l ∷ ls) = AreSmall (quoted_phrase l) × AllSmall ls

both_small : (ls ms : List Quoted) → AllSmall ls → AllSmall ms → AllSmall (ls ++ ms)
both_small [] ms h k = k
both_small (l ∷ ls) ms h k = (h.0, both_small ls ms h.1 k)

module _ (arrays : ℕ → Literal → List Quoted) (arrays_small : (a : ℕ) (at : Literal) → AllSmall (arrays a at)) where
  mutual
    phrase_literals : (cells : List Cell) (at : Literal) (t : Phrase) → AreSmall t → AllSmall (literals_in arrays cells at t)
    phrase_literals cells at end h = tt
    phrase_literals cells at (then i p t) h =
        both_small (literals_at arrays cells at i) (literals_in arrays (cells_behind cells i) (behind at i) t) (item_literals cells at i h.0) (phrase_literals (cells_behind cells i) (behind at i) t h.1)

    item_literals : (cells : List Cell) (at : Literal) (i : Item) → IsSmall i → AllSmall (literals_at arrays cells at i)
    item_literals cells at (quot t) h = (h, phrase_literals (inner_cells cells (quot t)) (first_of_literal at) t h)
    item_literals cells at (fry t n) h = (h, phrase_literals (inner_cells cells (fry t n)) (first_of_literal at) t h)
    item_literals cells at (lit_arr a) h = arrays_small a at
    item_literals cells at _ h = tt

-- the elements of an array as a phrase
elements_small : (m : Option ℕ) (p : Place) (ls : List Lit) → AllTested (quotations ls) → AreSmall (elements_phrase m p ls)
elements_small m p [] h = tt
elements_small m p (l_int z ∷ ls) h = (tt, elements_small m p ls h)
elements_small m p (l_yes ∷ ls) h = (tt, elements_small m p ls h)
elements_small m p (l_no ∷ ls) h = (tt, elements_small m p ls h)
elements_small m p (l_str bs ∷ ls) h = (tt, elements_small m p ls h)
elements_small m p (l_word w ∷ ls) h = (tt, elements_small m p ls h)
elements_small m p (l_made j ∷ ls) h = (tt, elements_small m p ls h)
elements_small m p (l_arr a ∷ ls) h = (tt, elements_small m p ls h)
elements_small m p (l_quot t ∷ ls) h = let parts = first_tested t (quotations ls) h in (method_if_small m t parts.0, elements_small m p ls parts.1)

split_arrays : (ls : List Lit) (lss : List (List Lit)) → AllTested (joined (map quotations (ls ∷ lss))) → AllTested (quotations ls) × AllTested (joined (map quotations lss))
split_arrays ls lss h =
    let own = quotations ls in
    let others = joined (map quotations lss) in
    and_parts (list_all (each_item tests_small) own) (list_all (each_item tests_small) others) (sym (list_all-append (each_item tests_small) own others) ∙ h)

array_tested : (lss : List (List Lit)) (a : ℕ) → AllTested (joined (map quotations lss)) → AllTested (quotations (array_or_none (slice_get lss a)))
array_tested [] a h = refl
array_tested (ls ∷ lss) zero h = (split_arrays ls lss h).0
array_tested (ls ∷ lss) (suc a) h = array_tested lss a (split_arrays ls lss h).1

-- what a word of a closed program is
abbrev pub IsSmallClosed : Sort → Type 0
IsSmallClosed (body t) = AreSmall t
IsSmallClosed (past t) = AreSmall t
IsSmallClosed (method c g t) = AreSmall t
IsSmallClosed _ = Unit {0}

module _ (P : Program) (whole : IsWhole P) where
  parts : AllTested (word_phrases P.words) × AllTested (joined (map quotations P.arrays))
  parts =
      let test = each_item tests_small in
      let words = word_phrases P.words in
      let inner = joined (map quotations P.arrays) in
      and_parts (list_all test words) (list_all test inner) (sym (list_all-append test words inner) ∙ whole.small_tests)

  array_small : (a : ℕ) (p : Place) → AreSmall (array_phrase P a p)
  array_small a p = elements_small (array_method P (length P.arrays) a) p (array_or_none (slice_get P.arrays a)) (array_tested P.arrays a parts.1)

  array_literals_small : (n a : ℕ) (at : Literal) → AllSmall (array_literals P n a at)
  array_literals_small zero a at = tt
  array_literals_small (suc n) a at = phrase_literals (array_literals P n) (array_literals_small n) [] (first_in_array at) (array_phrase P a nowhere) (array_small a nowhere)

  sort_literals_small : (w : ℕ) (s : Sort) → IsSmallSort w s → AllSmall (sort_literals P w s)
  sort_literals_small w (body t) h = phrase_literals (array_literals P (length P.arrays)) (array_literals_small (length P.arrays)) [] (first_of_word w) t h
  sort_literals_small w (past t) h = phrase_literals (array_literals P (length P.arrays)) (array_literals_small (length P.arrays)) [] (first_of_word w) t h
  sort_literals_small w (method c g t) h = phrase_literals (array_literals P (length P.arrays)) (array_literals_small (length P.arrays)) [] (first_of_word w) (of_method w t) h
  sort_literals_small w _ h = tt

  word_literals_small : (w : ℕ) (ds : List WordDef) → AllTested (word_phrases ds) → AllSmall (word_literals P w ds)
  word_literals_small w [] h = tt
  word_literals_small w (d ∷ ds) h = let first = with_rest w d.sort (word_phrases ds) h in both_small (sort_literals P w d.sort) (word_literals P (suc w) ds) (sort_literals_small w d.sort first.0) (word_literals_small (suc w) ds first.1)

  literal_small_at : (n k : ℕ) (ls : List Quoted) → AllSmall ls → AreSmall (quoted_phrase (literal_or P n (slice_get ls k)))
  literal_small_at n k [] h = tt
  literal_small_at n zero (l ∷ ls) h = h.0
  literal_small_at n (suc k) (l ∷ ls) h = literal_small_at n k ls h.1

  literal_small : (k : ℕ) → AreSmall (quoted_phrase (literal_numbered P k))
  literal_small k = literal_small_at k k (literals P) (word_literals_small 0 P.words parts.0)

  -- closed phrases
  item_closed : (cells : List Cell) (at : Literal) (i j : Item) → ClosesItem P cells at i j → IsSmall i → IsSmall j
  item_closed cells at (quot t) j h s = rw h.1 tt
  item_closed cells at (fry t n) j h s = rw h.1 tt
  item_closed cells at (local x) j h s = rw h.1 tt
  item_closed cells at (hole k) j h s = rw h.1 tt
  item_closed cells at (bind x) j h s = rw h tt
  item_closed cells at (lit p) j h s = rw h tt
  item_closed cells at (lit_arr a) j h s = rw h tt
  item_closed cells at (word w) j h s = rw h tt
  item_closed cells at (call_effect g) j h s = rw h s
  item_closed cells at (execute_effect g) j h s = rw h s
  item_closed cells at next_method j h s = rw h tt
  item_closed cells at (next_after m) j h s = rw h tt
  item_closed cells at (made k) j h s = absurd h
  item_closed cells at (held v) j h s = absurd h
  item_closed cells at (known m) j h s = absurd h

  phrase_closed : (cells : List Cell) (at : Literal) (t c : Phrase) → ClosesPhrase P cells at t c → AreSmall t → AreSmall c
  phrase_closed cells at end c h s = rw h tt
  phrase_closed cells at (then i p t) c h s = rw h.2 (item_closed cells at i h.0 h.3 s.0, phrase_closed (cells_behind cells i) (behind at i) t h.1 h.4 s.1)

  sort_closed : (w : ℕ) (s c : Sort) → ClosesSort P w s c → IsSmallSort w s → IsSmallClosed c
  sort_closed w (body t) c h s = rw h.1 (phrase_closed [] (first_of_word w) t h.0 h.2 s)
  sort_closed w (past t) c h s = rw h.1 (phrase_closed [] (first_of_word w) t h.0 h.2 s)
  sort_closed w (method n g t) c h s = rw h.1 (phrase_closed [] (first_of_word w) (of_method w t) h.0 h.2 s)
  sort_closed w _ c h s = rw h tt

  module _ (C : Closed) (closes : Closes P C.program C.templates) where
    pub word_small : (w : ℕ) (c : WordDef) → slice_get C.program.words w ≡ Some c → IsSmallClosed c.sort
    word_small w c e =
        let found = word_open P C.program C.templates closes w c e in
        sort_closed w found.def.sort c.sort found.closes.sort (word_small_at w P.words w found.def parts.0 found.at)

    pub template_small : (q : ℕ) (t : Template) → slice_get C.templates q ≡ Some t → AreSmall t.body
    template_small q t e =
        let l : Quoted = literal_numbered P q in
        let closed = template_closed P C.program C.templates closes q t e in
        phrase_closed (inner_cells l.cells l.item) (first_of_literal l.at) (quoted_phrase l) t.body closed.body (literal_small q)
