-- The literal arrays that the phrases of a whole program name are there, also in the phrases of its literals.
use Rattle.std.proofs.Common.{◌≡◌, ℕ, zero, suc, List, [], ◌∷◌, ◌++◌, length, map, Bool, true, false, ◌&&◌, Option, Some, None, refl, sym, subst, ◌∙◌, true≢false}
use Rattle.std.proofs.lemmas.List.Folds.{list_all-append}
use Rattle.std.specs.Prelude.{nat_lt, slice_get}
use Rattle.std.specs.List.{list_all}
use Rattle.fac_base.specs.declared.place.Place.{Place}
use Rattle.fac_lang.specs.declared.program.Program.{Program}
use Rattle.fac_lang.specs.declared.program.WordDef.{WordDef}
use Rattle.fac_lang.specs.declared.program.Lit.{Lit}
use Rattle.fac_lang.specs.declared.program.Lit.TheVariants.{Int as l_int, True as l_yes, False as l_no, Str as l_str, Arr as l_arr, Wref as l_word, Quot as l_quot, Made as l_made}
use Rattle.fac_lang.specs.declared.program.Sort.{Sort}
use Rattle.fac_lang.specs.declared.program.Sort.TheVariants.{Body as body, Past as past, Method as method}
use Rattle.fac_lang.specs.Phrases.{Literal, Phrase, end, then, Item, lit_arr, quot, fry}
use Rattle.fac_lang.specs.Substitution.{of_method, of_method_item}
use Rattle.fac_lang.specs.Meaning.{of_method_if, array_method, nowhere}
use Rattle.fac_lang.specs.Whole.{IsWhole, each_item, each_inner, item_fits, literal_fits, word_phrases, quotations, joined}
use Rattle.fac_locals.specs.declared.cell.Cell.{Cell}
use Rattle.fac_locals.specs.Cells.{cells_behind, inner_cells}
use Rattle.fac_locals.specs.Literals.{Quoted, quoted_phrase, behind, first_of_word, first_of_literal, first_in_array, elements_phrase, array_or_none, array_phrase, literals_in, literals_at, array_literals, sort_literals, word_literals, literals, literal_or, literal_numbered}

never_true : {A : Type 0} → false ≡ true → A
never_true h = absurd (true≢false (sym h))

both_true : (b c : Bool) → (b && c) ≡ true → (b ≡ true) × (c ≡ true)
both_true true c e = (refl, e)
both_true false c e = never_true e

module _ (P : Program) where
  -- each literal array that a phrase names is there, in its quotations and fry bodies too
  abbrev mutual
    pub NamesArrays : Phrase → Type 0
    NamesArrays end = Unit {0}
    NamesArrays (then i p t) = NamesArray i × NamesArrays t

    pub NamesArray : Item → Type 0
    NamesArray (lit_arr a) = nat_lt a (length P.arrays) ≡ true
    NamesArray (quot t) = NamesArrays t
    NamesArray (fry t n) = NamesArrays t
    NamesArray _ = Unit {0}

  three : (a b c : Bool) → (a && b && c) ≡ true → (a ≡ true) × (b ≡ true) × (c ≡ true)
  three true true c e = (refl, refl, e)
  three true false c e = never_true e
  three false b c e = never_true e

  mutual
    fitting : (t : Phrase) → each_item (item_fits P) t ≡ true → NamesArrays t
    fitting end h = tt
    fitting (then i p t) h = let parts = three (item_fits P i) (each_inner (item_fits P) i) (each_item (item_fits P) t) h in (fitting_item i parts.0 parts.1, fitting t parts.2)

    fitting_item : (i : Item) → item_fits P i ≡ true → each_inner (item_fits P) i ≡ true → NamesArray i
    fitting_item (lit_arr a) h k = h
    fitting_item (quot t) h k = fitting t k
    fitting_item (fry t n) h k = fitting t k
    fitting_item _ h k = tt

  -- in a method too
  mutual
    method_names : (m : ℕ) (t : Phrase) → NamesArrays t → NamesArrays (of_method m t)
    method_names m end h = tt
    method_names m (then i p t) h = (method_item_names m i h.0, method_names m t h.1)

    method_item_names : (m : ℕ) (i : Item) → NamesArray i → NamesArray (of_method_item m i)
    method_item_names m (lit_arr a) h = h
    method_item_names m (quot t) h = method_names m t h
    method_item_names m (fry t n) h = method_names m t h
    method_item_names m _ h = tt

  method_if_names : (m : Option ℕ) (t : Phrase) → NamesArrays t → NamesArrays (of_method_if m t)
  method_if_names None t h = h
  method_if_names (Some m) t h = method_names m t h

  -- the phrase of a word as it runs
  abbrev pub SortNames : ℕ → Sort → Type 0
  SortNames w (body t) = NamesArrays t
  SortNames w (past t) = NamesArrays t
  SortNames w (method c g t) = NamesArrays (of_method w t)
  SortNames w _ = Unit {0}

  with_rest : (w : ℕ) (s : Sort) (rest : List Phrase) → list_all (each_item (item_fits P)) (elim s [ body t ↦ t ∷ rest | past t ↦ t ∷ rest | method c g t ↦ t ∷ rest | _ ↦ rest ]) ≡ true → SortNames w s × (list_all (each_item (item_fits P)) rest ≡ true)
  with_rest w (body t) rest h = let parts = both_true (each_item (item_fits P) t) (list_all (each_item (item_fits P)) rest) h in (fitting t parts.0, parts.1)
  with_rest w (past t) rest h = let parts = both_true (each_item (item_fits P) t) (list_all (each_item (item_fits P)) rest) h in (fitting t parts.0, parts.1)
  with_rest w (method c g t) rest h = let parts = both_true (each_item (item_fits P) t) (list_all (each_item (item_fits P)) rest) h in (method_names w t (fitting t parts.0), parts.1)
  with_rest w _ rest h = (tt, h)

  word_names_at : (v : ℕ) (ds : List WordDef) (w : ℕ) (d : WordDef) → list_all (each_item (item_fits P)) (word_phrases ds) ≡ true → slice_get ds w ≡ Some d → SortNames v d.sort
  word_names_at v [] w d h e = absurd (cc)
  word_names_at v (x ∷ ds) zero d h e = let same : x ≡ d = cc in subst (λ (y : WordDef). SortNames v y.sort) same (with_rest v x.sort (word_phrases ds) h).0
  word_names_at v (x ∷ ds) (suc w) d h e = word_names_at v ds w d (with_rest v x.sort (word_phrases ds) h).1 e

  -- literals
  abbrev AllName : List Quoted → Type 0
  AllName [] = Unit {0}
  AllName (l ∷ ls) = NamesArrays (quoted_phrase l) × AllName ls

  both_name : (ls ms : List Quoted) → AllName ls → AllName ms → AllName (ls ++ ms)
  both_name [] ms h k = k
  both_name (l ∷ ls) ms h k = (h.0, both_name ls ms h.1 k)

  module _ (arrays : ℕ → Literal → List Quoted) (arrays_name : (a : ℕ) (at : Literal) → AllName (arrays a at)) where
    mutual
      phrase_literals : (cells : List Cell) (at : Literal) (t : Phrase) → NamesArrays t → AllName (literals_in arrays cells at t)
      phrase_literals cells at end h = tt
      phrase_literals cells at (then i p t) h =
          both_name (literals_at arrays cells at i) (literals_in arrays (cells_behind cells i) (behind at i) t) (item_literals cells at i h.0) (phrase_literals (cells_behind cells i) (behind at i) t h.1)

      item_literals : (cells : List Cell) (at : Literal) (i : Item) → NamesArray i → AllName (literals_at arrays cells at i)
      item_literals cells at (quot t) h = (h, phrase_literals (inner_cells cells (quot t)) (first_of_literal at) t h)
      item_literals cells at (fry t n) h = (h, phrase_literals (inner_cells cells (fry t n)) (first_of_literal at) t h)
      item_literals cells at (lit_arr a) h = arrays_name a at
      item_literals cells at _ h = tt

  module _ (whole : IsWhole P) where
    parts : (list_all (each_item (item_fits P)) (word_phrases P.words) ≡ true) × (list_all (each_item (item_fits P)) (joined (map quotations P.arrays)) ≡ true)
    parts =
        let test = each_item (item_fits P) in
        let words = word_phrases P.words in
        let inner = joined (map quotations P.arrays) in
        both_true (list_all test words) (list_all test inner) (sym (list_all-append test words inner) ∙ whole.items_fit)

    pub word_names_arrays : (w : ℕ) (d : WordDef) → slice_get P.words w ≡ Some d → SortNames w d.sort
    word_names_arrays w d e = word_names_at w P.words w d parts.0 e

    -- the elements of an array as a phrase
    split_arrays : (ls : List Lit) (lss : List (List Lit)) → list_all (each_item (item_fits P)) (joined (map quotations (ls ∷ lss))) ≡ true → (list_all (each_item (item_fits P)) (quotations ls) ≡ true) × (list_all (each_item (item_fits P)) (joined (map quotations lss)) ≡ true)
    split_arrays ls lss h =
        let test = each_item (item_fits P) in
        let own = quotations ls in
        let others = joined (map quotations lss) in
        both_true (list_all test own) (list_all test others) (sym (list_all-append test own others) ∙ h)

    split_literals : (ls : List Lit) (lss : List (List Lit)) → list_all (literal_fits P) (joined (ls ∷ lss)) ≡ true → (list_all (literal_fits P) ls ≡ true) × (list_all (literal_fits P) (joined lss) ≡ true)
    split_literals ls lss h = both_true (list_all (literal_fits P) ls) (list_all (literal_fits P) (joined lss)) (sym (list_all-append (literal_fits P) ls (joined lss)) ∙ h)

    array_fits : (lss : List (List Lit)) (a : ℕ) → list_all (each_item (item_fits P)) (joined (map quotations lss)) ≡ true → list_all (literal_fits P) (joined lss) ≡ true →
        (list_all (each_item (item_fits P)) (quotations (array_or_none (slice_get lss a))) ≡ true) × (list_all (literal_fits P) (array_or_none (slice_get lss a)) ≡ true)
    array_fits [] a h k = (refl, refl)
    array_fits (ls ∷ lss) zero h k = ((split_arrays ls lss h).0, (split_literals ls lss k).0)
    array_fits (ls ∷ lss) (suc a) h k = array_fits lss a (split_arrays ls lss h).1 (split_literals ls lss k).1

    elements_name : (m : Option ℕ) (p : Place) (ls : List Lit) → list_all (each_item (item_fits P)) (quotations ls) ≡ true → list_all (literal_fits P) ls ≡ true → NamesArrays (elements_phrase m p ls)
    elements_name m p [] h k = tt
    elements_name m p (l_int z ∷ ls) h k = (tt, elements_name m p ls h k)
    elements_name m p (l_yes ∷ ls) h k = (tt, elements_name m p ls h k)
    elements_name m p (l_no ∷ ls) h k = (tt, elements_name m p ls h k)
    elements_name m p (l_str bs ∷ ls) h k = (tt, elements_name m p ls h k)
    elements_name m p (l_word w ∷ ls) h k = (tt, elements_name m p ls h (both_true (literal_fits P (l_word w)) (list_all (literal_fits P) ls) k).1)
    elements_name m p (l_made j ∷ ls) h k = never_true k
    elements_name m p (l_arr a ∷ ls) h k = let fits = both_true (literal_fits P (l_arr a)) (list_all (literal_fits P) ls) k in (fits.0, elements_name m p ls h fits.1)
    elements_name m p (l_quot t ∷ ls) h k = let fits = both_true (each_item (item_fits P) t) (list_all (each_item (item_fits P)) (quotations ls)) h in (method_if_names m t (fitting t fits.0), elements_name m p ls fits.1 k)

    array_names : (a : ℕ) (p : Place) → NamesArrays (array_phrase P a p)
    array_names a p = let fits = array_fits P.arrays a parts.1 whole.literals_fit in elements_name (array_method P (length P.arrays) a) p (array_or_none (slice_get P.arrays a)) fits.0 fits.1

    array_literals_name : (n a : ℕ) (at : Literal) → AllName (array_literals P n a at)
    array_literals_name zero a at = tt
    array_literals_name (suc n) a at = phrase_literals (array_literals P n) (array_literals_name n) [] (first_in_array at) (array_phrase P a nowhere) (array_names a nowhere)

    sort_literals_name : (w : ℕ) (s : Sort) → SortNames w s → AllName (sort_literals P w s)
    sort_literals_name w (body t) h = phrase_literals (array_literals P (length P.arrays)) (array_literals_name (length P.arrays)) [] (first_of_word w) t h
    sort_literals_name w (past t) h = phrase_literals (array_literals P (length P.arrays)) (array_literals_name (length P.arrays)) [] (first_of_word w) t h
    sort_literals_name w (method c g t) h = phrase_literals (array_literals P (length P.arrays)) (array_literals_name (length P.arrays)) [] (first_of_word w) (of_method w t) h
    sort_literals_name w _ h = tt

    word_literals_name : (w : ℕ) (ds : List WordDef) → list_all (each_item (item_fits P)) (word_phrases ds) ≡ true → AllName (word_literals P w ds)
    word_literals_name w [] h = tt
    word_literals_name w (d ∷ ds) h = let first = with_rest w d.sort (word_phrases ds) h in both_name (sort_literals P w d.sort) (word_literals P (suc w) ds) (sort_literals_name w d.sort first.0) (word_literals_name (suc w) ds first.1)

    literal_names_at : (n k : ℕ) (ls : List Quoted) → AllName ls → NamesArrays (quoted_phrase (literal_or P n (slice_get ls k)))
    literal_names_at n k [] h = tt
    literal_names_at n zero (l ∷ ls) h = h.0
    literal_names_at n (suc k) (l ∷ ls) h = literal_names_at n k ls h.1

    pub literal_names_arrays : (k : ℕ) → NamesArrays (quoted_phrase (literal_numbered P k))
    literal_names_arrays k = literal_names_at k k (literals P) (word_literals_name 0 P.words parts.0)
