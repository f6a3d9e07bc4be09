-- The literals of a program together with their places, and those of a literal array wherever it stands.
use Rattle.std.proofs.Common.{◌≡◌, ◌<◌, ℕ, zero, suc, ◌+◌, List, [], ◌∷◌, ◌++◌, length, get_or, Option, Some, None, refl, sym, ap, ◌∙◌, append_assoc, length-append, arith}
use Rattle.std.specs.Prelude.{map, slice_get}
use Rattle.std.proofs.lemmas.List.{append-nil, map-append}
use Rattle.fac_lang.specs.Phrases.{Literal, Phrase, end, then, Item, lit, lit_arr, quot, word, bind, local, fry, hole, call_effect, execute_effect, next_method, made, next_after, held, known}
use Rattle.fac_lang.specs.Substitution.{of_method}
use Rattle.fac_lang.specs.Meaning.{nowhere}
use Rattle.fac_base.specs.declared.place.Place.{Place}
use Rattle.fac_lang.specs.declared.program.Lit.{Lit}
use Rattle.fac_lang.specs.declared.program.Program.{Program}
use Rattle.fac_lang.specs.declared.program.WordDef.{WordDef}
use Rattle.fac_lang.specs.declared.program.Sort.{Sort}
use Rattle.fac_lang.specs.declared.program.Sort.TheVariants.{Body as body, Past as past, Method as method}
use Rattle.fac_lang.proofs.SourcePrograms.{IsSessionProgram}
use Rattle.fac_lang.specs.Whole.{IsWhole}
use Rattle.fac_locals.specs.declared.cell.Cell.{Cell}
use Rattle.fac_locals.specs.Cells.{cells_behind, inner_cells}
use Rattle.fac_locals.specs.Literals.{Quoted, first_of_word, first_of_literal, first_in_array, behind, literals_in, literals_at, array_literals, sort_literals, word_literals, literals, places_in, places_at, array_places, sort_places, word_places, literal_places, array_phrase, array_or_none, elements_phrase, element_item}
use Rattle.fac_lang.specs.Meaning.{array_method}
use Rattle.fac_locals.specs.inner.Numbering.{phrase_behind, item_behind, plain_item, plain_phrase, phrase_of, method_of, words_behind, counts_from}
use Rattle.fac_locals.proofs.LiteralArrays.{IsClosable, IsClosableItem, AreClosable, array_closable, array_phrase_is, counted_elements, in_method, item_in, in_method_is, body_of, program_closable}

-- a literal and the place of its template
abbrev pub Placed : Type 0
Placed = Quoted × Place

abbrev pub quoted_of : Placed → Quoted
quoted_of l = l.0

abbrev pub place_at : Placed → Place
place_at l = l.1

-- an item that stands here under these cells, and its place
abbrev pub placed_item : List Cell → Literal → Place → Item → Placed
placed_item cells at p i = (record { at = at; cells = cells; item = i }, p)

module _ (arrays : ℕ → Literal → Place → List Placed) where
  abbrev mutual
    pub placed_in : List Cell → Literal → Phrase → List Placed
    placed_in cells at end = []
    placed_in cells at (then i p t) = placed_at cells at p i ++ placed_in (cells_behind cells i) (behind at i) t

    pub placed_at : List Cell → Literal → Place → Item → List Placed
    placed_at cells at p (quot t) = placed_item cells at p (quot t) ∷ placed_in (inner_cells cells (quot t)) (first_of_literal at) t
    placed_at cells at p (fry t n) = placed_item cells at p (fry t n) ∷ placed_in (inner_cells cells (fry t n)) (first_of_literal at) t
    placed_at cells at p (lit_arr a) = arrays a at p
    placed_at cells at p _ = []

-- those of this literal array, where at most n nest
abbrev pub array_placed : Program → ℕ → ℕ → Literal → Place → List Placed
array_placed P zero a at p = []
array_placed P (suc n) a at p = placed_in (array_placed P n) [] (first_in_array at) (array_phrase P a p)

-- those of the phrases of words, from word w on
abbrev pub placed_words : (ℕ → Literal → Place → List Placed) → ℕ → List WordDef → List Placed
placed_words arrays w [] = []
placed_words arrays w (d ∷ ds) = placed_in arrays [] (first_of_word w) (body_of w d.sort) ++ placed_words arrays (suc w) ds

-- Without the places they are the literals.
both_mapped : {A : Type 0} (f : Placed → A) (ls ms : List Placed) (xs ys : List A) → map f ls ≡ xs → map f ms ≡ ys → map f (ls ++ ms) ≡ xs ++ ys
both_mapped f ls ms xs ys e g = map-append f ls ms ∙ rw (e, g) refl

module _ (X : ℕ → Literal → Place → List Placed) (Y : ℕ → Literal → List Quoted) (same : (a : ℕ) (at : Literal) (p : Place) → map quoted_of (X a at p) ≡ Y a at) where
  mutual
    quoted_in : (cells : List Cell) (at : Literal) (t : Phrase) → map quoted_of (placed_in X cells at t) ≡ literals_in Y cells at t
    quoted_in cells at end = refl
    quoted_in cells at (then i p t) =
        let next = cells_behind cells i in
        both_mapped quoted_of (placed_at X cells at p i) (placed_in X next (behind at i) t) (literals_at Y cells at i) (literals_in Y next (behind at i) t) (quoted_at cells at p i) (quoted_in next (behind at i) t)

    quoted_at : (cells : List Cell) (at : Literal) (p : Place) (i : Item) → map quoted_of (placed_at X cells at p i) ≡ literals_at Y cells at i
    quoted_at cells at p (quot t) = ap (λ (ls : List Quoted). record { at = at; cells = cells; item = quot t } ∷ ls) (quoted_in (inner_cells cells (quot t)) (first_of_literal at) t)
    quoted_at cells at p (fry t n) = ap (λ (ls : List Quoted). record { at = at; cells = cells; item = fry t n } ∷ ls) (quoted_in (inner_cells cells (fry t n)) (first_of_literal at) t)
    quoted_at cells at p (lit_arr a) = same a at p
    quoted_at cells at p (lit q) = refl
    quoted_at cells at p (word w) = refl
    quoted_at cells at p (bind x) = refl
    quoted_at cells at p (local x) = refl
    quoted_at cells at p (hole k) = refl
    quoted_at cells at p (call_effect f) = refl
    quoted_at cells at p (execute_effect f) = refl
    quoted_at cells at p next_method = refl
    quoted_at cells at p (made k) = refl
    quoted_at cells at p (next_after m) = refl
    quoted_at cells at p (held v) = refl
    quoted_at cells at p (known m) = refl

  quoted_sort : (P : Program) (n w : ℕ) (s : Sort) → Y ≡ array_literals P (length P.arrays) → IsClosable n (phrase_of s) → map quoted_of (placed_in X [] (first_of_word w) (body_of w s)) ≡ sort_literals P w s
  quoted_sort P n w (body t) e c = quoted_in [] (first_of_word w) (in_method None t) ∙ ap (literals_in Y [] (first_of_word w)) (in_method_is n None t c) ∙ ap (λ (Z : ℕ → Literal → List Quoted). literals_in Z [] (first_of_word w) t) e
  quoted_sort P n w (past t) e c = quoted_in [] (first_of_word w) (in_method None t) ∙ ap (literals_in Y [] (first_of_word w)) (in_method_is n None t c) ∙ ap (λ (Z : ℕ → Literal → List Quoted). literals_in Z [] (first_of_word w) t) e
  quoted_sort P n w (method k g t) e c =
      quoted_in [] (first_of_word w) (in_method (Some w) t) ∙ ap (literals_in Y [] (first_of_word w)) (in_method_is n (Some w) t c) ∙ ap (λ (Z : ℕ → Literal → List Quoted). literals_in Z [] (first_of_word w) (of_method w t)) e
  quoted_sort P n w _ e c = refl

  quoted_words : (P : Program) (n w : ℕ) (ds : List WordDef) → Y ≡ array_literals P (length P.arrays) → AreClosable n ds → map quoted_of (placed_words X w ds) ≡ word_literals P w ds
  quoted_words P n w [] e c = refl
  quoted_words P n w (d ∷ ds) e c = both_mapped quoted_of (placed_in X [] (first_of_word w) (body_of w d.sort)) (placed_words X (suc w) ds) (sort_literals P w d.sort) (word_literals P (suc w) ds) (quoted_sort P n w d.sort e c.0) (quoted_words P n (suc w) ds e c.1)

-- where the elements of an array are placed is nothing to its literals
elements_anywhere : (Y : ℕ → Literal → List Quoted) (m : Option ℕ) (p q : Place) (cells : List Cell) (at : Literal) (ls : List Lit) → literals_in Y cells at (elements_phrase m p ls) ≡ literals_in Y cells at (elements_phrase m q ls)
elements_anywhere Y m p q cells at [] = refl
elements_anywhere Y m p q cells at (l ∷ ls) = ap (λ (xs : List Quoted). literals_at Y cells at (element_item m l) ++ xs) (elements_anywhere Y m p q (cells_behind cells (element_item m l)) (behind at (element_item m l)) ls)

quoted_array : (P : Program) (n a : ℕ) (at : Literal) (p : Place) → map quoted_of (array_placed P n a at p) ≡ array_literals P n a at
quoted_array P zero a at p = refl
quoted_array P (suc n) a at p =
    quoted_in (array_placed P n) (array_literals P n) (quoted_array P n) [] (first_in_array at) (array_phrase P a p) ∙ elements_anywhere (array_literals P n) (array_method P (length P.arrays) a) p nowhere [] (first_in_array at) (array_or_none (slice_get P.arrays a))

-- Without the literals they are the places.
module _ (X : ℕ → Literal → Place → List Placed) (Y : ℕ → Place → List Place) (same : (a : ℕ) (at : Literal) (p : Place) → map place_at (X a at p) ≡ Y a p) where
  mutual
    place_in : (cells : List Cell) (at : Literal) (t : Phrase) → map place_at (placed_in X cells at t) ≡ places_in Y t
    place_in cells at end = refl
    place_in cells at (then i p t) = both_mapped place_at (placed_at X cells at p i) (placed_in X (cells_behind cells i) (behind at i) t) (places_at Y p i) (places_in Y t) (place_at_item cells at p i) (place_in (cells_behind cells i) (behind at i) t)

    place_at_item : (cells : List Cell) (at : Literal) (p : Place) (i : Item) → map place_at (placed_at X cells at p i) ≡ places_at Y p i
    place_at_item cells at p (quot t) = ap (λ (ps : List Place). p ∷ ps) (place_in (inner_cells cells (quot t)) (first_of_literal at) t)
    place_at_item cells at p (fry t n) = ap (λ (ps : List Place). p ∷ ps) (place_in (inner_cells cells (fry t n)) (first_of_literal at) t)
    place_at_item cells at p (lit_arr a) = same a at p
    place_at_item cells at p (lit q) = refl
    place_at_item cells at p (word w) = refl
    place_at_item cells at p (bind x) = refl
    place_at_item cells at p (local x) = refl
    place_at_item cells at p (hole k) = refl
    place_at_item cells at p (call_effect f) = refl
    place_at_item cells at p (execute_effect f) = refl
    place_at_item cells at p next_method = refl
    place_at_item cells at p (made k) = refl
    place_at_item cells at p (next_after m) = refl
    place_at_item cells at p (held v) = refl
    place_at_item cells at p (known m) = refl

  place_sort : (P : Program) (n w : ℕ) (s : Sort) → Y ≡ array_places P (length P.arrays) → IsClosable n (phrase_of s) → map place_at (placed_in X [] (first_of_word w) (body_of w s)) ≡ sort_places P w s
  place_sort P n w (body t) e c = place_in [] (first_of_word w) (in_method None t) ∙ ap (places_in Y) (in_method_is n None t c) ∙ ap (λ (Z : ℕ → Place → List Place). places_in Z t) e
  place_sort P n w (past t) e c = place_in [] (first_of_word w) (in_method None t) ∙ ap (places_in Y) (in_method_is n None t c) ∙ ap (λ (Z : ℕ → Place → List Place). places_in Z t) e
  place_sort P n w (method k g t) e c = place_in [] (first_of_word w) (in_method (Some w) t) ∙ ap (places_in Y) (in_method_is n (Some w) t c) ∙ ap (λ (Z : ℕ → Place → List Place). places_in Z (of_method w t)) e
  place_sort P n w _ e c = refl

  place_words : (P : Program) (n w : ℕ) (ds : List WordDef) → Y ≡ array_places P (length P.arrays) → AreClosable n ds → map place_at (placed_words X w ds) ≡ word_places P w ds
  place_words P n w [] e c = refl
  place_words P n w (d ∷ ds) e c = both_mapped place_at (placed_in X [] (first_of_word w) (body_of w d.sort)) (placed_words X (suc w) ds) (sort_places P w d.sort) (word_places P (suc w) ds) (place_sort P n w d.sort e c.0) (place_words P n (suc w) ds e c.1)

place_array : (P : Program) (n a : ℕ) (at : Literal) (p : Place) → map place_at (array_placed P n a at p) ≡ array_places P n a p
place_array P zero a at p = refl
place_array P (suc n) a at p = place_in (array_placed P n) (array_places P n) (place_array P n) [] (first_in_array at) (array_phrase P a p)

-- the literals of a program with their places
abbrev pub program_placed : Program → List Placed
program_placed P = placed_words (array_placed P (length P.arrays)) 0 P.words

pub placed_literals : (P : Program) → IsSessionProgram P → IsWhole P → map quoted_of (program_placed P) ≡ literals P
placed_literals P b w = quoted_words (array_placed P (length P.arrays)) (array_literals P (length P.arrays)) (quoted_array P (length P.arrays)) P (length P.arrays) 0 P.words refl (program_closable P b w)

pub placed_places : (P : Program) → IsSessionProgram P → IsWhole P → map place_at (program_placed P) ≡ literal_places P
placed_places P b w = place_words (array_placed P (length P.arrays)) (array_places P (length P.arrays)) (place_array P (length P.arrays)) P (length P.arrays) 0 P.words refl (program_closable P b w)

-- A phrase has so many.
no_more : {A : Type 0} (xs : List A) (n : ℕ) → length xs ≡ n → length (xs ++ []) ≡ n
no_more xs n e = rw (append-nil xs) e

one_more : {A : Type 0} (xs : List A) (x : A) (n : ℕ) → length xs ≡ n → length (xs ++ x ∷ []) ≡ suc n
one_more xs x n e = rw (length-append xs (x ∷ [])) (omega (arith, e))

more : {A : Type 0} (xs ys : List A) (n k : ℕ) → length xs ≡ n → length ys ≡ k → length (xs ++ ys) ≡ n + k
more xs ys n k e f = rw (length-append xs ys, e, f) refl

module _ (X : ℕ → Literal → Place → List Placed) (counts : List ℕ) (bound : ℕ) (count : (b : ℕ) (at : Literal) (p : Place) → b < bound → length (X b at p) ≡ get_or counts b 0) where
  mutual
    pub phrase_counted : (m : Option ℕ) (n : ℕ) (ls : List Placed) (cells : List Cell) (at : Literal) (t : Phrase) → IsClosable bound t → length ls ≡ n → length (ls ++ placed_in X cells at (in_method m t)) ≡ phrase_behind counts n t
    phrase_counted m n ls cells at end h e = no_more ls n e
    phrase_counted m n ls cells at (then i p t) h e =
        let j = item_in m i in
        let here = placed_at X cells at p j in
        let next = cells_behind cells j in
        ap length (sym (append_assoc ls here (placed_in X next (behind at j) (in_method m t)))) ∙ phrase_counted m (item_behind counts n i) (ls ++ here) next (behind at j) t h.1 (item_counted m n ls cells at p i h.0 e)

    pub item_counted : (m : Option ℕ) (n : ℕ) (ls : List Placed) (cells : List Cell) (at : Literal) (p : Place) (i : Item) → IsClosableItem bound i → length ls ≡ n → length (ls ++ placed_at X cells at p (item_in m i)) ≡ item_behind counts n i
    item_counted m n ls cells at p (quot t) h e =
        let x : Placed = placed_item cells at p (quot (in_method m t)) in
        let inner = inner_cells cells (quot (in_method m t)) in
        ap length (sym (append_assoc ls (x ∷ []) (placed_in X inner (first_of_literal at) (in_method m t)))) ∙ phrase_counted m (suc n) (ls ++ x ∷ []) inner (first_of_literal at) t h (one_more ls x n e)
    item_counted m n ls cells at p (fry t k) h e =
        let x : Placed = placed_item cells at p (fry (in_method m t) k) in
        let inner = inner_cells cells (fry (in_method m t) k) in
        ap length (sym (append_assoc ls (x ∷ []) (placed_in X inner (first_of_literal at) (in_method m t)))) ∙ phrase_counted m (suc n) (ls ++ x ∷ []) inner (first_of_literal at) t h (one_more ls x n e)
    item_counted m n ls cells at p (lit q) h e = no_more ls n e
    item_counted m n ls cells at p (word w) h e = no_more ls n e
    item_counted m n ls cells at p (bind x) h e = no_more ls n e
    item_counted m n ls cells at p (local x) h e = no_more ls n e
    item_counted m n ls cells at p (hole k) h e = no_more ls n e
    item_counted m n ls cells at p (lit_arr a) h e = more ls (X a at p) n (get_or counts a 0) e (count a at p h)
    item_counted None n ls cells at p next_method h e = no_more ls n e
    item_counted (Some m) n ls cells at p next_method h e = no_more ls n e
    item_counted m n ls cells at p (call_effect g) h e = no_more ls n e
    item_counted m n ls cells at p (execute_effect g) h e = no_more ls n e
    item_counted m n ls cells at p _ h e = absurd h

  pub words_counted : (n w : ℕ) (ls : List Placed) (ds : List WordDef) → AreClosable bound ds → length ls ≡ n → length (ls ++ placed_words X w ds) ≡ words_behind counts n ds
  words_counted n w ls [] h e = no_more ls n e
  words_counted n w ls (d ∷ ds) h e =
      let here = placed_in X [] (first_of_word w) (body_of w d.sort) in
      ap length (sym (append_assoc ls here (placed_words X (suc w) ds))) ∙ words_counted (phrase_behind counts n (phrase_of d.sort)) (suc w) (ls ++ here) ds h.1 (phrase_counted (method_of w d.sort) n ls [] (first_of_word w) (phrase_of d.sort) h.0 e)

-- Two ways to find the literals of arrays agree on a phrase where they agree on the arrays that it names.
module _ (X Y : ℕ → Literal → Place → List Placed) (bound : ℕ) (same : (b : ℕ) (at : Literal) (p : Place) → b < bound → X b at p ≡ Y b at p) where
  mutual
    pub phrase_same : (m : Option ℕ) (cells : List Cell) (at : Literal) (t : Phrase) → IsClosable bound t → placed_in X cells at (in_method m t) ≡ placed_in Y cells at (in_method m t)
    phrase_same m cells at end h = refl
    phrase_same m cells at (then i p t) h = rw (item_same m cells at p i h.0, phrase_same m (cells_behind cells (item_in m i)) (behind at (item_in m i)) t h.1) refl

    item_same : (m : Option ℕ) (cells : List Cell) (at : Literal) (p : Place) (i : Item) → IsClosableItem bound i → placed_at X cells at p (item_in m i) ≡ placed_at Y cells at p (item_in m i)
    item_same m cells at p (quot t) h = let i = quot (in_method m t) in ap (λ (ls : List Placed). placed_item cells at p i ∷ ls) (phrase_same m (inner_cells cells i) (first_of_literal at) t h)
    item_same m cells at p (fry t k) h = let i = fry (in_method m t) k in ap (λ (ls : List Placed). placed_item cells at p i ∷ ls) (phrase_same m (inner_cells cells i) (first_of_literal at) t h)
    item_same m cells at p (lit q) h = refl
    item_same m cells at p (word w) h = refl
    item_same m cells at p (bind x) h = refl
    item_same m cells at p (local x) h = refl
    item_same m cells at p (hole k) h = refl
    item_same m cells at p (lit_arr a) h = same a at p h
    item_same None cells at p next_method h = refl
    item_same (Some m) cells at p next_method h = refl
    item_same m cells at p (call_effect g) h = refl
    item_same m cells at p (execute_effect g) h = refl
    item_same m cells at p _ h = absurd h

-- what a list has below its length
pub found : {A : Type 0} (xs : List A) (k : ℕ) → k < length xs → (x : A) × (slice_get xs k ≡ Some x)
found [] k lt = absurd (omega (arith, lt))
found (x ∷ xs) zero lt = (x, refl)
found (x ∷ xs) (suc k) lt = found xs k (omega (arith, lt))

behind_anywhere : (counts : List ℕ) (n : ℕ) (p q : Place) (ls : List Lit) → phrase_behind counts n (plain_phrase p ls) ≡ phrase_behind counts n (plain_phrase q ls)
behind_anywhere counts n p q [] = refl
behind_anywhere counts n p q (l ∷ ls) = behind_anywhere counts (item_behind counts n (plain_item l)) p q ls

module _ (P : Program) (b : IsSessionProgram P) (w : IsWhole P) where
  -- the method in which a literal array stands
  abbrev around : ℕ → Option ℕ
  around a = array_method P (length P.arrays) a

  -- As many nestings as arrays before an array are enough.
  pub arrays_same : (f g a : ℕ) (at : Literal) (p : Place) → a < f → a < g → a < length P.arrays → array_placed P f a at p ≡ array_placed P g a at p
  arrays_same zero g a at p lt le inside = absurd (omega (arith, lt))
  arrays_same (suc f) zero a at p lt le inside = absurd (omega (arith, le))
  arrays_same (suc f) (suc g) a at p lt le inside =
      let here = found P.arrays a inside in
      let is = array_phrase_is P b w a p here.0 here.1 in
      ap (placed_in (array_placed P f) [] (first_in_array at)) is
      ∙ phrase_same (array_placed P f) (array_placed P g) a (λ (c : ℕ) (at : Literal) (p : Place) (less : c < a). arrays_same f g c at p (omega (arith, lt, less)) (omega (arith, le, less)) (omega (arith, inside, less))) (around a) [] (first_in_array at) (plain_phrase p here.0) (array_closable P b w a p here.0 here.1)
      ∙ sym (ap (placed_in (array_placed P g) [] (first_in_array at)) is)

  unfolds : (f a : ℕ) (at : Literal) (p : Place) (ls : List Lit) → a < f → slice_get P.arrays a ≡ Some ls → a < length P.arrays → array_placed P f a at p ≡ placed_in (array_placed P (length P.arrays)) [] (first_in_array at) (in_method (around a) (plain_phrase p ls))
  unfolds zero a at p ls lt is inside = absurd (omega (arith, lt))
  unfolds (suc f) a at p ls lt is inside =
      ap (placed_in (array_placed P f) [] (first_in_array at)) (array_phrase_is P b w a p ls is)
      ∙ phrase_same (array_placed P f) (array_placed P (length P.arrays)) a (λ (c : ℕ) (at : Literal) (p : Place) (less : c < a). arrays_same f (length P.arrays) c at p (omega (arith, lt, less)) (omega (arith, inside, less)) (omega (arith, inside, less))) (around a) [] (first_in_array at) (plain_phrase p ls) (array_closable P b w a p ls is)

  -- the literals of an array are those of its elements
  pub array_unfolds : (a : ℕ) (at : Literal) (p : Place) (ls : List Lit) → slice_get P.arrays a ≡ Some ls → a < length P.arrays → array_placed P (length P.arrays) a at p ≡ placed_in (array_placed P (length P.arrays)) [] (first_in_array at) (in_method (array_method P (length P.arrays) a) (plain_phrase p ls))
  array_unfolds a at p ls is inside = unfolds (length P.arrays) a at p ls inside is inside

  counted_at : (f a : ℕ) (at : Literal) (p : Place) → a < f → a < length P.arrays → length (array_placed P f a at p) ≡ get_or (counts_from [] P.arrays) a 0
  counted_at zero a at p lt inside = absurd (omega (arith, lt))
  counted_at (suc f) a at p lt inside =
      let here = found P.arrays a inside in
      let counts = counts_from [] P.arrays in
      ap (λ (t : Phrase). length (placed_in (array_placed P f) [] (first_in_array at) t)) (array_phrase_is P b w a p here.0 here.1)
      ∙ phrase_counted (array_placed P f) counts a (λ (c : ℕ) (at : Literal) (p : Place) (less : c < a). counted_at f c at p (omega (arith, lt, less)) (omega (arith, inside, less))) (around a) 0 [] [] (first_in_array at) (plain_phrase p here.0) (array_closable P b w a p here.0 here.1) refl
      ∙ behind_anywhere counts 0 p nowhere here.0
      ∙ sym (counted_elements P b w a here.0 here.1)

  -- a literal array has as many literals as are counted in it, wherever it stands
  pub array_counted : (a : ℕ) (at : Literal) (p : Place) → a < length P.arrays → length (array_placed P (length P.arrays) a at p) ≡ get_or (counts_from [] P.arrays) a 0
  array_counted a at p inside = counted_at (length P.arrays) a at p inside inside
