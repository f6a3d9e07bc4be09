-- What closing makes stands for the program.
use Rattle.std.proofs.Common.{◌≡◌, ◌<◌, ◌≤◌, ◌⊎◌, inl, inr, ℕ, zero, suc, ◌+◌, List, [], ◌∷◌, ◌++◌, length, set, get_or, true, Option, Some, None, refl, sym, ap, ◌∙◌, subst, append_assoc, length-append, length-set, arith}
use Rattle.std.specs.Prelude.{map, slice_get}
use Rattle.std.proofs.lemmas.Bool.{cases_eq, cases_lt}
use Rattle.std.proofs.lemmas.Option.{get_or_from_slice_get, slice_get_within}
use Rattle.fac_lang.specs.Phrases.{Literal, Phrase, end, then, Item, lit, lit_arr, quot, word, bind, local, fry, hole, call_effect, execute_effect, next_method}
use Rattle.fac_lang.specs.Meaning.{nowhere, array_method, sort_phrase, word_phrase}
use Rattle.fac_base.specs.declared.place.Place.{Place}
use Rattle.fac_lang.specs.declared.phrase.Template.{Template}
use Rattle.fac_lang.specs.declared.program.Lit.{Lit}
use Rattle.fac_lang.specs.declared.program.Lit.TheVariants.{Int as l_int, True as l_yes, False as l_no, Str as l_str, Arr as l_arr, Wref as l_word, Quot as l_quot, Made as l_made}
use Rattle.fac_lang.specs.declared.program.Program.{Program}
use Rattle.fac_lang.specs.declared.program.WordDef.{WordDef}
use Rattle.fac_lang.specs.declared.program.Sort.{Sort}
use Rattle.fac_lang.specs.declared.program.Sort.TheVariants.{Body as body, Past as past, Method as method}
use Rattle.fac_lang.proofs.SourcePrograms.{IsSessionProgram}
use Rattle.fac_lang.specs.Whole.{IsWhole, times_in, each_numbered, names_earlier, arrays_named, arrays_named_by, arrays_in, joined, word_phrases, all_arrays_named}
use Rattle.fac_locals.specs.declared.cell.Cell.{Cell}
use Rattle.fac_locals.specs.declared.cell.Cell.TheVariants.{Local, Hole}
use Rattle.fac_locals.specs.Cells.{cells_behind, captured, inner_phrase, inner_cells, hole_count}
use Rattle.fac_locals.specs.declared.closing.ArrayStart.{ArrayStart}
use Rattle.fac_locals.specs.Literals.{Quoted, StandsIn, it_is, in_quotation, in_fry, in_array, further, StandsAt, array_phrase, element_item, first_of_word, first_of_literal, first_in_array, behind, literal_or, literal_numbered}
use Rattle.fac_locals.specs.Closed.{IsMadeBy, Closes, CloseWords, ClosesSort, ClosesPhrase, ClosesItem, ClosesLiteral, CloseLiterals, ClosesElement, CloseElements, CloseArrays}
use Rattle.fac_locals.specs.inner.Numbering.{put_all, start_of, plain_item, plain_phrase, phrase_of, method_of, next_in, cell_or, phrase_behind, item_behind, closed_item, closed_phrase, closed_template, phrase_templates, item_templates, phrase_starts, item_starts, closed_element, closed_elements, closed_sort, closed_word, closed_words, words_behind, words_templates, words_starts, counts_from, Stage, start_at, elements_at, array_closed, arrays_closed, PartsClosed}
use Rattle.fac_locals.proofs.LiteralArrays.{IsClosable, IsClosableItem, AreClosable, program_closable, array_closable, array_phrase_is, closable_more, in_method, item_in, in_method_is, body_of}
use Rattle.fac_locals.proofs.AskedCells.{same_number, IsUnder, IsItemUnder, AreUnder, first_under, rest_under, quotation_under, fry_under, numbered_there, captured_in, quotation_cells_in, fry_cells_in, cells_behind_in, program_under, array_under}
use Rattle.fac_locals.proofs.TemplateNumbers.{no_cells}
use Rattle.fac_locals.proofs.PlacedLiterals.{Placed, placed_item, quoted_of, place_at, placed_in, placed_at, placed_words, array_placed, program_placed, placed_literals, placed_places, phrase_counted, item_counted, words_counted, array_unfolds, array_counted, found}
use Rattle.fac_locals.proofs.Puts.{keys, AllOf, Has, all_both, set_here, set_other, put_keeps, put_there, put_elsewhere, named_put, entry_named, put_once, times_both}
use Rattle.fac_locals.proofs.ArrayNames.{Covered, by_side, reserved_by, phrase_covers, words_cover, phrase_names_noted, phrase_noted_below, words_noted_below, words_names_noted, elements_names, names_below, names_all, names_step, names_fewer, not_named_below, below_once}
use Rattle.fac_locals.proofs.ArrayMethods.{by_words, by_arrays, word_array, array_array}
use Rattle.fac_locals.proofs.ArraySteps.{as_many_put}

pub element_at : {A : Type 0} (xs : List A) (x : A) (ys : List A) (n : ℕ) → length xs ≡ n → slice_get (xs ++ x ∷ ys) n ≡ Some x
element_at [] x ys zero e = refl
element_at [] x ys (suc n) e = absurd (omega (arith, e))
element_at (z ∷ xs) x ys zero e = absurd (omega (arith, e))
element_at (z ∷ xs) x ys (suc n) e = element_at xs x ys n (omega (arith, e))

one_more : {A : Type 0} (xs : List A) (x : A) (n : ℕ) → length xs ≡ n → length (xs ++ x ∷ []) ≡ suc n
one_more xs x n e = rw (length-append xs (x ∷ [])) (omega (arith, e))

-- the literal array of this number is closed where it stands
abbrev pub IsClosedArray : Program → ℕ → List Lit → List Lit → Type 0
IsClosedArray P a ls c = (at : Literal) × CloseElements P (array_method P (length P.arrays) a) (first_in_array at) ls c × StandsAt P a at

some_same : {A : Type 0} (x y : A) → Some x ≡ Some y → x ≡ y
some_same x y e = cc

both_places : (t : Template) (j : Placed) (ps qs : List Place) → t.place ≡ j.1 → ps ≡ qs → t.place ∷ ps ≡ j.1 ∷ qs
both_places t j ps qs e f = rw (e, f) refl

-- what stands in an array that stands there
through : (P : Program) (here : Literal) (t : Phrase) (b : ℕ) (at : Literal) (q : Place) (a : ℕ) (there : Literal) → StandsIn P here t b at → StandsIn P (first_in_array at) (array_phrase P b q) a there → StandsIn P here t a there
through P here t b at q a there (it_is h c p u) s = in_array h c p u q a there s
through P here t b at q a there (in_quotation h v p u c x r) s = in_quotation h v p u a there (through P (first_of_literal h) v b at q a there r s)
through P here t b at q a there (in_fry h v n p u c x r) s = in_fry h v n p u a there (through P (first_of_literal h) v b at q a there r s)
through P here t b at q a there (in_array h d p u o c x r) s = in_array h d p u o a there (through P (first_in_array h) (array_phrase P d o) b at q a there r s)
through P here t b at q a there (further h i p u c x r) s = further h i p u a there (through P (behind h i) u b at q a there r s)

in_standing : (P : Program) (b : ℕ) (at : Literal) (q : Place) (a : ℕ) (there : Literal) → StandsAt P b at → StandsIn P (first_in_array at) (array_phrase P b q) a there → StandsAt P a there
in_standing P b at q a there h s = record { word = h.word; stands = through P (first_of_word h.word) (word_phrase P h.word) b at q a there h.stands s }

-- The literals of the program with their places are all of these. Where they are those before a phrase, those of the phrase and those behind it, the phrase is closed with numbers from there on.
module _ (P : Program) (counts : List ℕ) (X : ℕ → Literal → Place → List Placed) (all : List Placed) (count : (b : ℕ) (at : Literal) (p : Place) → b < length P.arrays → length (X b at p) ≡ get_or counts b 0) (numbers : (k : ℕ) (l : Placed) → slice_get all k ≡ Some l → literal_numbered P k ≡ l.0) where
  -- the template of this number is that of its literal
  abbrev Fills : ℕ → Template → Type 0
  Fills k t = (l : Placed) × (slice_get all k ≡ Some l) × ClosesLiteral P l.0 t × (t.place ≡ l.1)

  -- a literal array stands where it is noted
  record Stands (b : ℕ) (m : ArrayStart) : Type 0 where
    pub at : Literal
    pub before : List Placed
    pub after : List Placed
    pub is : all ≡ before ++ (X b at m.place ++ after)
    pub number_is : length before ≡ m.number
    pub method_is : m.method ≡ array_method P (length P.arrays) b
    pub named : StandsAt P b at

  first_part : (before xs ys after : List Placed) → all ≡ before ++ ((xs ++ ys) ++ after) → all ≡ before ++ (xs ++ (ys ++ after))
  first_part before xs ys after is = is ∙ ap (λ (ls : List Placed). before ++ ls) (append_assoc xs ys after)

  second_part : (before xs ys after : List Placed) → all ≡ before ++ ((xs ++ ys) ++ after) → all ≡ (before ++ xs) ++ (ys ++ after)
  second_part before xs ys after is = first_part before xs ys after is ∙ sym (append_assoc before xs (ys ++ after))

  next_closes : (cells : List Cell) (at : Literal) (m : Option ℕ) → ClosesItem P cells at (next_in m) (next_in m)
  next_closes cells at None = refl
  next_closes cells at (Some m) = refl

  -- the same behind an item in a method
  moved : (m : Option ℕ) (cells : List Cell) (before here after : List Placed) (at : Literal) (i : Item) (t : Phrase) → all ≡ before ++ ((here ++ placed_in X (cells_behind cells (item_in m i)) at t) ++ after) → all ≡ before ++ ((here ++ placed_in X (cells_behind cells i) at t) ++ after)
  moved m cells before here after at i t is = is ∙ ap (λ (cs : List Cell). before ++ ((here ++ placed_in X cs at t) ++ after)) (cells_behind_in m cells i)

  -- the number of a quotation or fry that comes next
  made_next : (n : ℕ) (cells : List Cell) (before rest : List Placed) (at : Literal) (p : Place) (i : Item) → length before ≡ n → all ≡ before ++ (placed_item cells at p i ∷ rest) → IsMadeBy P cells at i n
  made_next n cells before rest at p i e is = let x = placed_item cells at p i in numbers n x (ap (λ (ls : List Placed). slice_get ls n) is ∙ element_at before x rest n e)

  -- in the phrase of a method, or of none
  module _ (m : Option ℕ) where
    mutual
      phrase_closes : (n : ℕ) (cells : List Cell) (before after : List Placed) (at : Literal) (t : Phrase) → IsClosable (length P.arrays) t → IsUnder cells t → length before ≡ n → all ≡ before ++ (placed_in X cells at (in_method m t) ++ after) → ClosesPhrase P cells at (in_method m t) (closed_phrase counts m cells n t)
      phrase_closes n cells before after at end h u e is = refl
      phrase_closes n cells before after at (then i p t) h u e is =
          let j = item_in m i in
          let here = placed_at X cells at p j in
          let next = cells_behind cells i in
          let rest = placed_in X next (behind at j) (in_method m t) in
          let split = moved m cells before here after (behind at j) i (in_method m t) is in
          let later = closed_phrase counts m next (item_behind counts n i) t in
          let closes = phrase_closes (item_behind counts n i) next (before ++ here) after (behind at j) t h.1 (rest_under cells i p t u) (item_counted X counts (length P.arrays) count m n before cells at p i h.0 e) (second_part before here rest after split) in
          (closed_item counts m cells n i, later, refl, item_closes n cells before (rest ++ after) at p i h.0 (first_under cells i p t u) e (first_part before here rest after split), subst (λ (cs : List Cell). ClosesPhrase P cs (behind at j) (in_method m t) later) (sym (cells_behind_in m cells i)) closes)

      item_closes : (n : ℕ) (cells : List Cell) (before after : List Placed) (at : Literal) (p : Place) (i : Item) → IsClosableItem (length P.arrays) i → IsItemUnder cells i → length before ≡ n → all ≡ before ++ (placed_at X cells at p (item_in m i) ++ after) → ClosesItem P cells at (item_in m i) (closed_item counts m cells n i)
      item_closes n cells before after at p (quot t) h u e is = let i = quot (in_method m t) in (n, refl, made_next n cells before (placed_in X (inner_cells cells i) (first_of_literal at) (in_method m t) ++ after) at p i e is)
      item_closes n cells before after at p (fry t c) h u e is = let i = fry (in_method m t) c in (n, refl, made_next n cells before (placed_in X (inner_cells cells i) (first_of_literal at) (in_method m t) ++ after) at p i e is)
      item_closes n cells before after at p (bind x) h u e is = refl
      item_closes n cells before after at p (local x) h u e is = let found = numbered_there cells (Local x) (u.has (Local x) (same_number x)) in (found.0, ap (cell_or (local x)) found.1, found.1)
      item_closes n cells before after at p (hole c) h u e is = let found = numbered_there cells (Hole c) (u.has (Hole c) (same_number c)) in (found.0, ap (cell_or (hole c)) found.1, found.1)
      item_closes n cells before after at p (lit q) h u e is = refl
      item_closes n cells before after at p (word w) h u e is = refl
      item_closes n cells before after at p (lit_arr a) h u e is = refl
      item_closes n cells before after at p next_method h u e is = next_closes cells at m
      item_closes n cells before after at p (call_effect g) h u e is = refl
      item_closes n cells before after at p (execute_effect g) h u e is = refl
      item_closes n cells before after at p _ h u e is = absurd h

    -- the template of a quotation or fry
    literal_fills :
        (n : ℕ) (cells : List Cell) (before rest : List Placed) (at : Literal) (p : Place) (i o : Item) (t : Phrase) → inner_phrase i ≡ in_method m t → captured cells i ≡ captured cells o → inner_cells cells i ≡ inner_cells cells o → hole_count i ≡ hole_count o → length before ≡ n → all ≡ before ++ (placed_item cells at p i ∷ rest) →
        ClosesPhrase P (inner_cells cells o) (first_of_literal at) (in_method m t) (closed_phrase counts m (inner_cells cells o) (suc n) t) → Fills n (closed_template counts m cells n p o t)
    literal_fills n cells before rest at p i o t phrase_is captures_are cells_are holes_are e is closes =
        let x = placed_item cells at p i in
        let c = closed_phrase counts m (inner_cells cells o) (suc n) t in
        let body : ClosesPhrase P (inner_cells cells i) (first_of_literal at) (inner_phrase i) c = subst (λ (u : Phrase). ClosesPhrase P (inner_cells cells i) (first_of_literal at) u c) (sym phrase_is) (subst (λ (cs : List Cell). ClosesPhrase P cs (first_of_literal at) (in_method m t) c) (sym cells_are) closes) in
        (x, ap (λ (ls : List Placed). slice_get ls n) is ∙ element_at before x rest n e, record { body = body; captures = sym captures_are; holes = sym holes_are }, refl)

    -- what is in it, under the cells that it has in no method
    inside : (cells own : List Cell) (before after : List Placed) (at : Literal) (x : Placed) (t : Phrase) → cells ≡ own → all ≡ before ++ ((x ∷ placed_in X cells at t) ++ after) → all ≡ (before ++ x ∷ []) ++ (placed_in X own at t ++ after)
    inside cells own before after at x t same is = second_part before (x ∷ []) (placed_in X own at t) after (is ∙ ap (λ (cs : List Cell). before ++ ((x ∷ placed_in X cs at t) ++ after)) same)

    -- the templates of a phrase
    mutual
      templates_fill : (n : ℕ) (cells : List Cell) (before after : List Placed) (at : Literal) (t : Phrase) → IsClosable (length P.arrays) t → IsUnder cells t → length before ≡ n → all ≡ before ++ (placed_in X cells at (in_method m t) ++ after) → AllOf Fills (phrase_templates counts m cells n t)
      templates_fill n cells before after at end h u e is = tt
      templates_fill n cells before after at (then i p t) h u e is =
          let j = item_in m i in
          let here = placed_at X cells at p j in
          let next = cells_behind cells i in
          let rest = placed_in X next (behind at j) (in_method m t) in
          let split = moved m cells before here after (behind at j) i (in_method m t) is in
          all_both Fills (item_templates counts m cells n p i) (phrase_templates counts m next (item_behind counts n i) t) (item_fills n cells before (rest ++ after) at p i h.0 (first_under cells i p t u) e (first_part before here rest after split)) (templates_fill (item_behind counts n i) next (before ++ here) after (behind at j) t h.1 (rest_under cells i p t u) (item_counted X counts (length P.arrays) count m n before cells at p i h.0 e) (second_part before here rest after split))

      item_fills : (n : ℕ) (cells : List Cell) (before after : List Placed) (at : Literal) (p : Place) (i : Item) → IsClosableItem (length P.arrays) i → IsItemUnder cells i → length before ≡ n → all ≡ before ++ (placed_at X cells at p (item_in m i) ++ after) → AllOf Fills (item_templates counts m cells n p i)
      item_fills n cells before after at p (quot t) h u e is =
          let i = quot (in_method m t) in
          let x = placed_item cells at p i in
          let first = first_of_literal at in
          let own = inner_cells cells (quot t) in
          let same = quotation_cells_in m cells t in
          let long = one_more before x n e in
          let under = quotation_under cells t u in
          let split = inside (inner_cells cells i) own before after first x (in_method m t) same is in
          all_both Fills (phrase_templates counts m own (suc n) t) ((n, closed_template counts m cells n p (quot t) t) ∷ []) (templates_fill (suc n) own (before ++ x ∷ []) after first t h under long split) (literal_fills n cells before (placed_in X (inner_cells cells i) first (in_method m t) ++ after) at p i (quot t) t refl (captured_in m cells (quot t)) same refl e is (phrase_closes (suc n) own (before ++ x ∷ []) after first t h under long split), tt)
      item_fills n cells before after at p (fry t c) h u e is =
          let i = fry (in_method m t) c in
          let x = placed_item cells at p i in
          let first = first_of_literal at in
          let own = inner_cells cells (fry t c) in
          let same = fry_cells_in m cells t c in
          let long = one_more before x n e in
          let under = fry_under cells t c u in
          let split = inside (inner_cells cells i) own before after first x (in_method m t) same is in
          all_both Fills (phrase_templates counts m own (suc n) t) ((n, closed_template counts m cells n p (fry t c) t) ∷ []) (templates_fill (suc n) own (before ++ x ∷ []) after first t h under long split) (literal_fills n cells before (placed_in X (inner_cells cells i) first (in_method m t) ++ after) at p i (fry t c) t refl (captured_in m cells (fry t c)) same refl e is (phrase_closes (suc n) own (before ++ x ∷ []) after first t h under long split), tt)
      item_fills n cells before after at p _ h u e is = tt

    -- the arrays that a phrase names
    mutual
      starts_stand : (n : ℕ) (cells : List Cell) (before after : List Placed) (at : Literal) (t : Phrase) → IsClosable (length P.arrays) t → ((b : ℕ) → b < length P.arrays → 0 < times_in b (arrays_named t) → m ≡ array_method P (length P.arrays) b) → ((b : ℕ) (there : Literal) → StandsIn P at (in_method m t) b there → StandsAt P b there) → length before ≡ n → all ≡ before ++ (placed_in X cells at (in_method m t) ++ after) → AllOf Stands (phrase_starts counts m n t)
      starts_stand n cells before after at end h own up e is = tt
      starts_stand n cells before after at (then i p t) h own up e is =
          let j = item_in m i in
          let here = placed_at X cells at p j in
          let next = cells_behind cells j in
          let rest = placed_in X next (behind at j) (in_method m t) in
          all_both Stands (item_starts counts m n p i) (phrase_starts counts m (item_behind counts n i) t) (item_stands n cells before (rest ++ after) at p i (in_method m t) h.0 (λ b low some. own b low (let sum = times_both b (arrays_named_by i) (arrays_named t) in omega (arith, sum, some))) up e (first_part before here rest after is)) (starts_stand (item_behind counts n i) next (before ++ here) after (behind at j) t h.1 (λ b low some. own b low (let sum = times_both b (arrays_named_by i) (arrays_named t) in omega (arith, sum, some))) (λ b there s. up b there (further at j p (in_method m t) b there s)) (item_counted X counts (length P.arrays) count m n before cells at p i h.0 e) (second_part before here rest after is))

      item_stands : (n : ℕ) (cells : List Cell) (before after : List Placed) (at : Literal) (p : Place) (i : Item) (u : Phrase) → IsClosableItem (length P.arrays) i → ((b : ℕ) → b < length P.arrays → 0 < times_in b (arrays_named_by i) → m ≡ array_method P (length P.arrays) b) → ((b : ℕ) (there : Literal) → StandsIn P at (then (item_in m i) p u) b there → StandsAt P b there) → length before ≡ n → all ≡ before ++ (placed_at X cells at p (item_in m i) ++ after) → AllOf Stands (item_starts counts m n p i)
      item_stands n cells before after at p (quot t) u h own up e is =
          let i = quot (in_method m t) in
          let x = placed_item cells at p i in
          let inner = inner_cells cells i in
          starts_stand (suc n) inner (before ++ x ∷ []) after (first_of_literal at) t h own (λ b there s. up b there (in_quotation at (in_method m t) p u b there s)) (one_more before x n e) (second_part before (x ∷ []) (placed_in X inner (first_of_literal at) (in_method m t)) after is)
      item_stands n cells before after at p (fry t c) u h own up e is =
          let i = fry (in_method m t) c in
          let x = placed_item cells at p i in
          let inner = inner_cells cells i in
          starts_stand (suc n) inner (before ++ x ∷ []) after (first_of_literal at) t h own (λ b there s. up b there (in_fry at (in_method m t) c p u b there s)) (one_more before x n e) (second_part before (x ∷ []) (placed_in X inner (first_of_literal at) (in_method m t)) after is)
      item_stands n cells before after at p (lit_arr a) u h own up e is = (record { at = at; before = before; after = after; is = is; number_is = e; method_is = own a h (entry_named ((a, m) ∷ []) a m (inl (refl, refl))); named = up a at (it_is at a p u) }, tt)
      item_stands n cells before after at p _ u h own up e is = tt

    -- the elements of an array
    element_closes : (n : ℕ) (before after : List Placed) (at : Literal) (p : Place) (l : Lit) → IsClosableItem (length P.arrays) (plain_item l) → length before ≡ n → all ≡ before ++ (placed_at X [] at p (item_in m (plain_item l)) ++ after) → ClosesElement P m at l (closed_element counts n l)
    element_closes n before after at p (l_quot t) h e is = (n, refl, subst (λ (u : Phrase). IsMadeBy P [] at (quot u) n) (in_method_is (length P.arrays) m t h) (made_next n [] before (placed_in X [] (first_of_literal at) (in_method m t) ++ after) at p (quot (in_method m t)) e is))
    element_closes n before after at p (l_made k) h e is = absurd h
    element_closes n before after at p (l_int z) h e is = refl
    element_closes n before after at p l_yes h e is = refl
    element_closes n before after at p l_no h e is = refl
    element_closes n before after at p (l_str s) h e is = refl
    element_closes n before after at p (l_arr a) h e is = refl
    element_closes n before after at p (l_word w) h e is = refl

    -- the items of an element are as many as those of its item in the method
    same_behind : (at : Literal) (l : Lit) → IsClosableItem (length P.arrays) (plain_item l) → behind at (item_in m (plain_item l)) ≡ behind at (element_item m l)
    same_behind at (l_quot t) h = ap (λ (u : Phrase). behind at (quot u)) (in_method_is (length P.arrays) m t h)
    same_behind at (l_made k) h = absurd h
    same_behind at (l_int z) h = refl
    same_behind at l_yes h = refl
    same_behind at l_no h = refl
    same_behind at (l_str s) h = refl
    same_behind at (l_arr a) h = refl
    same_behind at (l_word w) h = refl

    elements_close : (n : ℕ) (before after : List Placed) (at : Literal) (p : Place) (ls : List Lit) → IsClosable (length P.arrays) (plain_phrase p ls) → length before ≡ n → all ≡ before ++ (placed_in X [] at (in_method m (plain_phrase p ls)) ++ after) → CloseElements P m at ls (closed_elements counts n ls)
    elements_close n before after at p [] h e is = refl
    elements_close n before after at p (l ∷ ls) h e is =
        let i = plain_item l in
        let j = item_in m i in
        let here = placed_at X [] at p j in
        let rest = placed_in X [] (behind at j) (in_method m (plain_phrase p ls)) in
        let split = is ∙ ap (λ (cs : List Cell). before ++ ((here ++ placed_in X cs (behind at j) (in_method m (plain_phrase p ls))) ++ after)) (cells_behind_in m [] i ∙ no_cells l) in
        let more = elements_close (item_behind counts n i) (before ++ here) after (behind at j) p ls h.1 (item_counted X counts (length P.arrays) count m n before [] at p i h.0 e) (second_part before here rest after split) in
        (closed_element counts n l, closed_elements counts (item_behind counts n i) ls, refl, element_closes n before (rest ++ after) at p l h.0 e (first_part before here rest after split), subst (λ (x : Literal). CloseElements P m x ls (closed_elements counts (item_behind counts n i) ls)) (same_behind at l h.0) more)

  -- Words from word w on, whose literals are the last ones.
  sort_closes : (n w : ℕ) (before after : List Placed) (s : Sort) → IsClosable (length P.arrays) (phrase_of s) → IsUnder [] (phrase_of s) → length before ≡ n → all ≡ before ++ (placed_in X [] (first_of_word w) (body_of w s) ++ after) → ClosesSort P w s (closed_sort counts w n s)
  sort_closes n w before after (body t) h u e is =
      (closed_phrase counts None [] n t, refl, subst (λ (v : Phrase). ClosesPhrase P [] (first_of_word w) v (closed_phrase counts None [] n t)) (in_method_is (length P.arrays) None t h) (phrase_closes None n [] before after (first_of_word w) t h u e is))
  sort_closes n w before after (past t) h u e is =
      (closed_phrase counts None [] n t, refl, subst (λ (v : Phrase). ClosesPhrase P [] (first_of_word w) v (closed_phrase counts None [] n t)) (in_method_is (length P.arrays) None t h) (phrase_closes None n [] before after (first_of_word w) t h u e is))
  sort_closes n w before after (method c g t) h u e is =
      (closed_phrase counts (Some w) [] n t, refl, subst (λ (v : Phrase). ClosesPhrase P [] (first_of_word w) v (closed_phrase counts (Some w) [] n t)) (in_method_is (length P.arrays) (Some w) t h) (phrase_closes (Some w) n [] before after (first_of_word w) t h u e is))
  sort_closes n w before after _ h u e is = refl

  words_close : (n w : ℕ) (before : List Placed) (ds : List WordDef) → AreClosable (length P.arrays) ds → AreUnder ds → length before ≡ n → all ≡ before ++ placed_words X w ds → CloseWords P w ds (closed_words counts w n ds)
  words_close n w before [] h u e is = refl
  words_close n w before (d ∷ ds) h u e is =
      let t = phrase_of d.sort in
      let here = placed_in X [] (first_of_word w) (body_of w d.sort) in
      let rest = placed_words X (suc w) ds in
      let j = phrase_behind counts n t in
      (closed_word counts w n d, closed_words counts (suc w) j ds, refl, record { name = refl; sort = sort_closes n w before rest d.sort h.0 u.0 e is; effect = refl; inline = refl; recursive = refl; place = refl }, words_close j (suc w) (before ++ here) ds h.1 u.1 (phrase_counted X counts (length P.arrays) count (method_of w d.sort) n before [] (first_of_word w) t h.0 e) (is ∙ sym (append_assoc before here rest)))

  words_fill : (n w : ℕ) (before : List Placed) (ds : List WordDef) → AreClosable (length P.arrays) ds → AreUnder ds → length before ≡ n → all ≡ before ++ placed_words X w ds → AllOf Fills (words_templates counts w n ds)
  words_fill n w before [] h u e is = tt
  words_fill n w before (d ∷ ds) h u e is =
      let t = phrase_of d.sort in
      let m = method_of w d.sort in
      let here = placed_in X [] (first_of_word w) (body_of w d.sort) in
      let rest = placed_words X (suc w) ds in
      let j = phrase_behind counts n t in
      all_both Fills (phrase_templates counts m [] n t) (words_templates counts (suc w) j ds) (templates_fill m n [] before rest (first_of_word w) t h.0 u.0 e is) (words_fill j (suc w) (before ++ here) ds h.1 u.1 (phrase_counted X counts (length P.arrays) count m n before [] (first_of_word w) t h.0 e) (is ∙ sym (append_assoc before here rest)))

  -- the arrays that these words name stand in the methods that the words are
  abbrev OwnArrays : ℕ → List WordDef → Type 0
  OwnArrays w ds = (k v b : ℕ) (d : WordDef) → v ≡ w + k → slice_get ds k ≡ Some d → b < length P.arrays → 0 < times_in b (arrays_named (phrase_of d.sort)) → method_of v d.sort ≡ array_method P (length P.arrays) b

  -- these words are the program's, from word w on
  abbrev OwnWords : ℕ → List WordDef → Type 0
  OwnWords w ds = (k v : ℕ) (d : WordDef) → v ≡ w + k → slice_get ds k ≡ Some d → slice_get P.words v ≡ Some d

  word_phrase_is : (w : ℕ) (d : WordDef) → slice_get P.words w ≡ Some d → IsClosable (length P.arrays) (phrase_of d.sort) → body_of w d.sort ≡ word_phrase P w
  word_phrase_is w d is h = go d.sort h ∙ ap (λ (o : Option WordDef). sort_phrase P w (elim o [ Some x ↦ Some x.sort | None ↦ None ])) (sym is)
    where
      go : (s : Sort) → IsClosable (length P.arrays) (phrase_of s) → body_of w s ≡ sort_phrase P w (Some s)
      go (body t) h = in_method_is (length P.arrays) None t h
      go (past t) h = in_method_is (length P.arrays) None t h
      go (method c g t) h = in_method_is (length P.arrays) (Some w) t h
      go _ h = refl

  words_stand : (n w : ℕ) (before : List Placed) (ds : List WordDef) → AreClosable (length P.arrays) ds → OwnArrays w ds → OwnWords w ds → length before ≡ n → all ≡ before ++ placed_words X w ds → AllOf Stands (words_starts counts w n ds)
  words_stand n w before [] h own known e is = tt
  words_stand n w before (d ∷ ds) h own known e is =
      let up : (a : ℕ) (there : Literal) → StandsIn P (first_of_word w) (body_of w d.sort) a there → StandsAt P a there = λ (a : ℕ) (there : Literal) (s : StandsIn P (first_of_word w) (body_of w d.sort) a there). record { word = w; stands = subst (λ (u : Phrase). StandsIn P (first_of_word w) u a there) (word_phrase_is w d (known 0 w d (omega arith) refl) h.0) s } in
      let t = phrase_of d.sort in
      let m = method_of w d.sort in
      let here = placed_in X [] (first_of_word w) (body_of w d.sort) in
      let rest = placed_words X (suc w) ds in
      let j = phrase_behind counts n t in
      all_both Stands (phrase_starts counts m n t) (words_starts counts (suc w) j ds) (starts_stand m n [] before rest (first_of_word w) t h.0 (λ b low some. own 0 w b d (omega arith) refl low some) up e is) (words_stand j (suc w) (before ++ here) ds h.1 (λ k v b x is at low some. own (suc k) v b x (omega (arith, is)) at low some) (λ k v x is at. known (suc k) v x (omega (arith, is)) at) (phrase_counted X counts (length P.arrays) count m n before [] (first_of_word w) t h.0 e) (is ∙ sym (append_assoc before here rest)))

  -- a stage at which this array is closed, where it starts here and has these elements
  abbrev closed_with : ℕ → Stage → ArrayStart → List Lit → Stage
  closed_with a s m ls = record { arrays = set s.arrays a (closed_elements counts m.number ls); templates = put_all s.templates (phrase_templates counts m.method [] m.number (plain_phrase m.place ls)); starts = put_all s.starts (phrase_starts counts m.method m.number (plain_phrase m.place ls)) }

  -- This number is reserved for an array that is still to be closed, and that none of those which are still to be closed names.
  record Pending (a : ℕ) (s : Stage) (k : ℕ) : Type 0 where
    pub number : ℕ
    pub start : ArrayStart
    pub to_come : number < a
    pub unnamed : times_in number (names_below a P.arrays) ≡ 0
    pub noted : slice_get s.starts number ≡ Some start
    pub behind_start : start.number ≤ k
    pub before_end : k < start.number + get_or counts number 0

  -- The arrays from number a on are closed.
  record ClosedFrom (a : ℕ) (s : Stage) : Type 0 where
    pub many_templates : length s.templates ≡ length all
    pub many_starts : length s.starts ≡ length P.arrays
    pub many_arrays : length s.arrays ≡ length P.arrays
    pub stand : (b : ℕ) → b < length P.arrays → times_in b (names_below a P.arrays) ≡ 0 → Has Stands s.starts b
    pub fill : (k : ℕ) → k < length all → Has Fills s.templates k ⊎ Pending a s k
    pub not_yet : (b : ℕ) → b < a → slice_get s.arrays b ≡ slice_get P.arrays b
    pub done : (b : ℕ) (ls : List Lit) → a ≤ b → slice_get P.arrays b ≡ Some ls → (c : List Lit) × (slice_get s.arrays b ≡ Some c) × IsClosedArray P b ls c

  module _ (once : (b : ℕ) → b < length P.arrays → by_words b P.words + by_arrays b P.arrays ≡ 1) (earlier : each_numbered names_earlier 0 P.arrays ≡ true) where
    -- One array more is closed.
    module _ (a : ℕ) (s : Stage) (ls : List Lit) (m : ArrayStart) (is : slice_get P.arrays a ≡ Some ls) (within : a < length P.arrays) (closable : IsClosable a (plain_phrase m.place ls)) (under : IsUnder [] (plain_phrase m.place ls)) (stands_at : Stands a m) (unfolds : X a stands_at.at m.place ≡ placed_in X [] (first_in_array stands_at.at) (in_method m.method (plain_phrase m.place ls))) (noted : slice_get s.starts a ≡ Some m) (phrase_is : in_method m.method (plain_phrase m.place ls) ≡ array_phrase P a m.place) (h : ClosedFrom (suc a) s) where
      abbrev t : Phrase
      t = plain_phrase m.place ls

      abbrev at : Literal
      at = first_in_array stands_at.at

      abbrev ts : List (ℕ × Template)
      ts = phrase_templates counts m.method [] m.number t

      abbrev ss : List (ℕ × ArrayStart)
      ss = phrase_starts counts m.method m.number t

      abbrev u : Stage
      u = closed_with a s m ls

      wide : IsClosable (length P.arrays) t
      wide = closable_more a (length P.arrays) t (omega (arith, within)) closable

      split : all ≡ stands_at.before ++ (placed_in X [] at (in_method m.method t) ++ stands_at.after)
      split = stands_at.is ∙ ap (λ (xs : List Placed). stands_at.before ++ (xs ++ stands_at.after)) unfolds

      fills : AllOf Fills ts
      fills = templates_fill m.method m.number [] stands_at.before stands_at.after at t wide under stands_at.number_is split

      stands : AllOf Stands ss
      stands = starts_stand m.method m.number [] stands_at.before stands_at.after at t wide (λ b low some. stands_at.method_is ∙ array_array P once earlier a b ls low is (let same = ap (times_in b) (elements_names m.place ls) in omega (arith, same, some))) (λ b there s. in_standing P a stands_at.at m.place b there stands_at.named (subst (λ (u : Phrase). StandsIn P at u b there) phrase_is s)) stands_at.number_is split

      names : keys ss ≡ arrays_in ls
      names = phrase_names_noted counts a m.method m.number t closable ∙ elements_names m.place ls

      ends : phrase_behind counts m.number t ≡ m.number + get_or counts a 0
      ends =
          let long = phrase_counted X counts (length P.arrays) count m.method m.number stands_at.before [] at t wide stands_at.number_is in
          let sum = length-append stands_at.before (placed_in X [] at (in_method m.method t)) in
          let own = ap length (sym unfolds) ∙ count a stands_at.at m.place within in
          omega (arith, long, sum, own, stands_at.number_is)

      named : (b : ℕ) → times_in b (names_below (suc a) P.arrays) ≡ times_in b (names_below a P.arrays) + times_in b (keys ss)
      named b = names_step b a P.arrays ls is ∙ sym (ap (λ (ks : List ℕ). times_in b (names_below a P.arrays) + times_in b ks) names)

      fewer : (b : ℕ) → b < length P.arrays → times_in b (names_below a P.arrays) + times_in b (keys ss) ≤ 1
      fewer b lt =
          let some = named b in
          let more = names_fewer b (suc a) P.arrays in
          let one = once b lt in
          omega (arith, some, more, one)

      stand_now : (b : ℕ) → b < length P.arrays → times_in b (names_below a P.arrays) ≡ 0 → Has Stands u.starts b
      stand_now b lt none = by_side (Has Stands u.starts b) (times_in b (keys ss)) 0 (λ (some : 0 < times_in b (keys ss)). put_there Stands s.starts ss b stands (named_put ss b some) (omega (arith, lt, h.many_starts))) (λ (no : times_in b (keys ss) ≤ 0). put_keeps Stands s.starts ss b stands (h.stand b lt (omega (arith, none, no, named b)))) (cases_lt 0 (times_in b (keys ss)))

      covered : (k : ℕ) → k < length all → Covered counts k ts ss → Has Fills u.templates k ⊎ Pending a u k
      covered k lt (inl put) = inl (put_there Fills s.templates ts k fills put (omega (arith, lt, h.many_templates)))
      covered k lt (inr reserved) =
          let r = reserved_by counts k ss reserved in
          let less = phrase_noted_below counts a m.method m.number t closable r.0 r.1 r.2 in
          let few = fewer r.0 (omega (arith, less, within)) in
          let some = entry_named ss r.0 r.1 r.2 in
          inr (record { number = r.0; start = r.1; to_come = less; unnamed = omega (arith, few, some); noted = put_once s.starts ss r.0 r.1 r.2 (omega (arith, few)) (omega (arith, less, within, h.many_starts)); behind_start = r.3; before_end = r.4 })

      still_pending : (k : ℕ) (p : Pending (suc a) s k) → (p.number ≡ a → ⊥) → Pending a u k
      still_pending k p other =
          let some = named p.number in
          record { number = p.number; start = p.start; to_come = by_side (p.number < a) a p.number (λ (lt : p.number < a). lt) (λ (le : a ≤ p.number). absurd (other (omega (arith, le, p.to_come)))) (cases_lt p.number a); unnamed = omega (arith, some, p.unnamed); noted = put_elsewhere s.starts ss p.number (omega (arith, some, p.unnamed)) ∙ p.noted; behind_start = p.behind_start; before_end = p.before_end }

      same_start : (x y : ArrayStart) (b : ℕ) → b ≡ a → slice_get s.starts b ≡ Some x → slice_get s.starts a ≡ Some y → x ≡ y
      same_start x y b e f g = let both : Some x ≡ Some y = sym f ∙ ap (slice_get s.starts) e ∙ g in cc

      fill_pending : (k : ℕ) → k < length all → (p : Pending (suc a) s k) → (p.number ≡ a) ⊎ (p.number ≡ a → ⊥) → Has Fills u.templates k ⊎ Pending a u k
      fill_pending k lt p (inl e) =
          let same = ap (λ (x : ArrayStart). x.number) (same_start p.start m p.number e p.noted noted) in
          let count_is = ap (λ (b : ℕ). get_or counts b 0) e in
          covered k lt (phrase_covers counts k m.method [] m.number t (omega (arith, p.behind_start, same)) (omega (arith, p.before_end, same, count_is, ends)))
      fill_pending k lt p (inr other) = inr (still_pending k p other)

      fill_either : (k : ℕ) → k < length all → Has Fills s.templates k ⊎ Pending (suc a) s k → Has Fills u.templates k ⊎ Pending a u k
      fill_either k lt (inl has) = inl (put_keeps Fills s.templates ts k fills has)
      fill_either k lt (inr p) = fill_pending k lt p (cases_eq p.number a)

      not_itself : (b : ℕ) → b < a → b ≡ a → ⊥
      not_itself b lt e = omega (arith, lt, e)

      done_now : (b : ℕ) (xs : List Lit) → a ≤ b → slice_get P.arrays b ≡ Some xs → (b ≡ a) ⊎ (b ≡ a → ⊥) → (c : List Lit) × (slice_get u.arrays b ≡ Some c) × IsClosedArray P b xs c
      done_now b xs le is_b (inl e) =
          let both : Some xs ≡ Some ls = sym is_b ∙ ap (slice_get P.arrays) e ∙ is in
          let same : xs ≡ ls = cc in
          let closed = closed_elements counts m.number ls in
          let here = set_here s.arrays a closed (omega (arith, within, h.many_arrays)) in
          let own : m.method ≡ array_method P (length P.arrays) b = stands_at.method_is ∙ sym (ap (array_method P (length P.arrays)) e) in
          (closed, ap (slice_get u.arrays) e ∙ here, (stands_at.at, subst (λ (ys : List Lit). CloseElements P (array_method P (length P.arrays) b) at ys closed) (sym same) (subst (λ (o : Option ℕ). CloseElements P o at ls closed) own (elements_close m.method m.number stands_at.before stands_at.after at m.place ls wide stands_at.number_is split)), subst (λ (n : ℕ). StandsAt P n stands_at.at) (sym e) stands_at.named))
      done_now b xs le is_b (inr other) =
          let before = h.done b xs (by_side (suc a ≤ b) (suc a) b (λ (lt : b < suc a). absurd (other (omega (arith, lt, le)))) (λ (more : suc a ≤ b). more) (cases_lt b (suc a))) is_b in
          (before.0, set_other s.arrays a b (closed_elements counts m.number ls) other ∙ before.1, before.2)

      one_closed : ClosedFrom a u
      one_closed = record {
        many_templates = as_many_put s.templates ts ∙ h.many_templates;
        many_starts = as_many_put s.starts ss ∙ h.many_starts;
        many_arrays = length-set s.arrays a (closed_elements counts m.number ls) ∙ h.many_arrays;
        stand = stand_now;
        fill = λ (k : ℕ) (lt : k < length all). fill_either k lt (h.fill k lt);
        not_yet = λ (b : ℕ) (lt : b < a). set_other s.arrays a b (closed_elements counts m.number ls) (not_itself b lt) ∙ h.not_yet b (omega (arith, lt));
        done = λ (b : ℕ) (xs : List Lit) (le : a ≤ b) (is_b : slice_get P.arrays b ≡ Some xs). done_now b xs le is_b (cases_eq b a);
      }

    module _ (built : IsSessionProgram P) (whole : IsWhole P) (unfolds : (a : ℕ) (at : Literal) (p : Place) (ls : List Lit) → slice_get P.arrays a ≡ Some ls → a < length P.arrays → X a at p ≡ placed_in X [] (first_in_array at) (in_method (array_method P (length P.arrays) a) (plain_phrase p ls))) where
      step : (a : ℕ) (s : Stage) → a < length P.arrays → ClosedFrom (suc a) s → ClosedFrom a (array_closed counts a s)
      step a s within h =
          let here = found P.arrays a within in
          let ls = here.0 in
          let start = h.stand a within (not_named_below a 0 (suc a) P.arrays whole.arrays_earlier (omega arith)) in
          let m = start.0 in
          let one = one_closed a s ls m here.1 within (array_closable P built whole a m.place ls here.1) (array_under P whole a m.place ls here.1) start.2 (unfolds a start.2.at m.place ls here.1 within ∙ ap (λ (o : Option ℕ). placed_in X [] (first_in_array start.2.at) (in_method o (plain_phrase m.place ls))) (sym start.2.method_is)) start.1 (ap (λ (o : Option ℕ). in_method o (plain_phrase m.place ls)) start.2.method_is ∙ sym (array_phrase_is P built whole a m.place ls here.1)) h in
          let start_is : start_at s a ≡ m = get_or_from_slice_get s.starts a m (start_of 0 nowhere None) start.1 in
          let elements_are : elements_at s a ≡ ls = get_or_from_slice_get s.arrays a ls [] (h.not_yet a (omega arith) ∙ here.1) in
          subst (ClosedFrom a) (sym (ap (λ (x : ArrayStart). closed_with a s x (elements_at s a)) start_is ∙ ap (closed_with a s m) elements_are)) one

      all_closed : (a : ℕ) (s : Stage) → a ≤ length P.arrays → ClosedFrom a s → ClosedFrom 0 (arrays_closed counts a s)
      all_closed zero s le h = h
      all_closed (suc a) s le h = all_closed a (array_closed counts a s) (omega (arith, le)) (step a s (omega (arith, le)) h)

      -- Words are closed, and no array yet.
      module _ (all_is : all ≡ placed_words X 0 P.words) (unfilled : List Template) (unmet : List ArrayStart) (many_unfilled : length unfilled ≡ words_behind counts 0 P.words) (many_unmet : length unmet ≡ length P.arrays) where
        abbrev word_templates : List (ℕ × Template)
        word_templates = words_templates counts 0 0 P.words

        abbrev word_starts : List (ℕ × ArrayStart)
        word_starts = words_starts counts 0 0 P.words

        abbrev begun : Stage
        begun = record { arrays = P.arrays; templates = put_all unfilled word_templates; starts = put_all unmet word_starts }

        closable_words : AreClosable (length P.arrays) P.words
        closable_words = program_closable P built whole

        words_end : words_behind counts 0 P.words ≡ length all
        words_end = sym (words_counted X counts (length P.arrays) count 0 0 [] P.words closable_words refl) ∙ sym (ap length all_is)

        words_filled : AllOf Fills word_templates
        words_filled = words_fill 0 0 [] P.words closable_words (program_under P whole) refl all_is

        words_standing : AllOf Stands word_starts
        words_standing = words_stand 0 0 [] P.words closable_words (λ k v b d is at low some. let here : k ≡ v = omega (arith, is) in word_array P once earlier v b d low (ap (slice_get P.words) (sym here) ∙ at) some) (λ k v d is at. let here : k ≡ v = omega (arith, is) in ap (slice_get P.words) (sym here) ∙ at) refl all_is

        names_of_words : (b : ℕ) → times_in b (keys word_starts) ≡ times_in b (joined (map arrays_named (word_phrases P.words)))
        names_of_words b = ap (times_in b) (words_names_noted counts (length P.arrays) 0 0 P.words closable_words)

        names_of_arrays : (b : ℕ) → times_in b (names_below (length P.arrays) P.arrays) ≡ times_in b (joined (map arrays_in P.arrays))
        names_of_arrays b = ap (times_in b) (names_all P.arrays)

        begun_covered : (k : ℕ) → k < length all → Covered counts k word_templates word_starts → Has Fills begun.templates k ⊎ Pending (length P.arrays) begun k
        begun_covered k lt (inl put) = inl (put_there Fills unfilled word_templates k words_filled put (omega (arith, lt, many_unfilled, words_end)))
        begun_covered k lt (inr reserved) =
            let r = reserved_by counts k word_starts reserved in
            let less = words_noted_below counts (length P.arrays) 0 0 P.words closable_words r.0 r.1 r.2 in
            let some = entry_named word_starts r.0 r.1 r.2 in
            let one = once r.0 less in
            let by_words = names_of_words r.0 in
            let by_arrays = names_of_arrays r.0 in
            inr (record { number = r.0; start = r.1; to_come = less; unnamed = omega (arith, some, one, by_words, by_arrays); noted = put_once unmet word_starts r.0 r.1 r.2 (omega (arith, one, by_words)) (omega (arith, less, many_unmet)); behind_start = r.3; before_end = r.4 })

        begin : ClosedFrom (length P.arrays) begun
        begin = record {
          many_templates = as_many_put unfilled word_templates ∙ many_unfilled ∙ words_end;
          many_starts = as_many_put unmet word_starts ∙ many_unmet;
          many_arrays = refl;
          stand = λ (b : ℕ) (lt : b < length P.arrays) (none : times_in b (names_below (length P.arrays) P.arrays) ≡ 0). put_there Stands unmet word_starts b words_standing (named_put word_starts b (omega (arith, none, once b lt, names_of_words b, names_of_arrays b))) (omega (arith, lt, many_unmet));
          fill = λ (k : ℕ) (lt : k < length all). begun_covered k lt (words_cover counts k 0 0 P.words (omega arith) (omega (arith, lt, words_end)));
          not_yet = λ (b : ℕ) (lt : b < length P.arrays). refl;
          done = λ (b : ℕ) (ls : List Lit) (le : length P.arrays ≤ b) (is : slice_get P.arrays b ≡ Some ls). absurd (omega (arith, le, slice_get_within P.arrays b ls is));
        }

        everything_closed : ClosedFrom 0 (arrays_closed counts (length P.arrays) begun)
        everything_closed = all_closed (length P.arrays) begun (omega arith) begin

  filled : (s : Stage) (k : ℕ) → Has Fills s.templates k ⊎ Pending 0 s k → Has Fills s.templates k
  filled s k (inl has) = has
  filled s k (inr p) = absurd (omega (arith, p.to_come))

  all_filled : (s : Stage) → ClosedFrom 0 s → (k : ℕ) → k < length all → Has Fills s.templates k
  all_filled s h k lt = filled s k (h.fill k lt)

abbrev place_of : Template → Place
place_of t = t.place

-- as many templates as literals, each that of its literal
literals_close : (P : Program) (js : List Placed) (ts : List Template) → length ts ≡ length js → ((k : ℕ) → k < length js → (t : Template) × (slice_get ts k ≡ Some t) × ((l : Placed) × (slice_get js k ≡ Some l) × ClosesLiteral P l.0 t × (t.place ≡ l.1))) → CloseLiterals P (map quoted_of js) ts × (map place_of ts ≡ map place_at js)
literals_close P [] [] many each = (refl, refl)
literals_close P [] (t ∷ ts) many each = absurd (omega (arith, many))
literals_close P (j ∷ js) [] many each = absurd (omega (arith, many))
literals_close P (j ∷ js) (t ∷ ts) many each =
    let here = each 0 (omega arith) in
    let template : t ≡ here.0 = some_same t here.0 here.1 in
    let literal : j ≡ here.2.0 = some_same j here.2.0 here.2.1 in
    let rest = literals_close P js ts (omega (arith, many)) (λ (k : ℕ) (lt : k < length js). each (suc k) (omega (arith, lt))) in
    ((t, ts, refl, subst (λ (u : Template). ClosesLiteral P j.0 u) (sym template) (subst (λ (l : Placed). ClosesLiteral P l.0 here.0) (sym literal) here.2.2), rest.0), both_places t j (map place_of ts) (map place_at js) (ap place_of template ∙ here.2.3 ∙ sym (ap place_at literal)) rest.1)

arrays_close : (P : Program) (k : ℕ) (lss cs : List (List Lit)) → length cs ≡ length lss → ((j a : ℕ) (ls : List Lit) → a ≡ k + j → slice_get lss j ≡ Some ls → (c : List Lit) × (slice_get cs j ≡ Some c) × IsClosedArray P a ls c) → CloseArrays P k lss cs
arrays_close P k [] [] many each = refl
arrays_close P k [] (c ∷ cs) many each = absurd (omega (arith, many))
arrays_close P k (ls ∷ lss) [] many each = absurd (omega (arith, many))
arrays_close P k (ls ∷ lss) (c ∷ cs) many each =
    let here = each 0 k ls (omega arith) refl in
    let same : c ≡ here.0 = some_same c here.0 here.1 in
    (here.2.0, c, cs, refl, subst (λ (xs : List Lit). CloseElements P (array_method P (length P.arrays) k) (first_in_array here.2.0) ls xs) (sym same) here.2.1, arrays_close P (suc k) lss cs (omega (arith, many)) (λ (j a : ℕ) (xs : List Lit) (is : a ≡ suc k + j) (e : slice_get lss j ≡ Some xs). each (suc j) a xs (omega (arith, is)) e), here.2.2)

mapped_at : {A B : Type 0} (f : A → B) (xs : List A) (k : ℕ) (x : A) → slice_get xs k ≡ Some x → slice_get (map f xs) k ≡ Some (f x)
mapped_at f [] k x e = absurd cc
mapped_at f (y ∷ xs) zero x e = ap (λ z. Some (f z)) (some_same y x e)
mapped_at f (y ∷ xs) (suc k) x e = mapped_at f xs k x e

module _ (P : Program) (b : IsSessionProgram P) (w : IsWhole P) where
  numbered : (k : ℕ) (l : Placed) → slice_get (program_placed P) k ≡ Some l → literal_numbered P k ≡ l.0
  numbered k l is = ap (literal_or P k) (ap (λ (ls : List Quoted). slice_get ls k) (sym (placed_literals P b w)) ∙ mapped_at quoted_of (program_placed P) k l is)

  pub named_once : (a : ℕ) → a < length P.arrays → by_words a P.words + by_arrays a P.arrays ≡ 1
  named_once a lt = sym (times_both a (joined (map arrays_named (word_phrases P.words))) (joined (map arrays_in P.arrays))) ∙ below_once (λ (k : ℕ). times_in k (all_arrays_named P)) (length P.arrays) a w.arrays_once lt

  closes_stage : (counts : List ℕ) → counts ≡ counts_from [] P.arrays → (unfilled : List Template) (unmet : List ArrayStart) → length unfilled ≡ words_behind counts 0 P.words → length unmet ≡ length P.arrays → (s : Stage) → s ≡ arrays_closed counts (length P.arrays) (record { arrays = P.arrays; templates = put_all unfilled (words_templates counts 0 0 P.words); starts = put_all unmet (words_starts counts 0 0 P.words) }) → Closes P (record { words = closed_words counts 0 0 P.words; arrays = s.arrays; classes = P.classes; top = P.top }) s.templates
  closes_stage counts counts_are unfilled unmet many_unfilled many_unmet s s_is =
      let X = array_placed P (length P.arrays) in
      let every = program_placed P in
      let count = λ (a : ℕ) (at : Literal) (p : Place) (lt : a < length P.arrays). array_counted P b w a at p lt ∙ sym (ap (λ (cs : List ℕ). get_or cs a 0) counts_are) in
      let h = subst (ClosedFrom P counts X every count numbered 0) (sym s_is) (everything_closed P counts X every count numbered named_once w.arrays_earlier b w (array_unfolds P b w) refl unfilled unmet many_unfilled many_unmet) in
      let both = literals_close P every s.templates h.many_templates (all_filled P counts X every count numbered s h) in
      record {
        words = words_close P counts X every count numbered 0 0 [] P.words (program_closable P b w) (program_under P w) refl refl;
        templates_are = subst (λ (ls : List Quoted). CloseLiterals P ls s.templates) (placed_literals P b w) both.0;
        places = both.1 ∙ placed_places P b w;
        arrays = arrays_close P 0 P.arrays s.arrays h.many_arrays (λ (j a : ℕ) (ls : List Lit) (is : a ≡ 0 + j) (e : slice_get P.arrays j ≡ Some ls). let here : j ≡ a = omega (arith, is) in let found = h.done j ls (omega arith) e in (found.0, found.1, subst (λ (n : ℕ). IsClosedArray P n ls found.0) here found.2));
        classes = refl;
        top = refl;
      }

  -- words, arrays and templates that closing makes of a program's words and arrays
  pub closes_program : (words : List WordDef) (arrays : List (List Lit)) (templates : List Template) → PartsClosed P.words P.arrays words arrays templates → Closes P (record { words = words; arrays = arrays; classes = P.classes; top = P.top }) templates
  closes_program words arrays templates made_of =
      let closed = closes_stage made_of.counts made_of.counts_are made_of.unfilled made_of.unmet made_of.unfilled_count made_of.unmet_count made_of.last (made_of.last_is ∙ ap (arrays_closed made_of.counts (length P.arrays)) made_of.after_words_is) in
      rw (made_of.words_are, made_of.arrays_are, made_of.templates_are) closed
