-- Where a phrase asks for each cell of its frame, and no cell hides another, frames of other marks make another phrase.
use Rattle.std.proofs.Common.{◌≡◌, ◌≤◌, ℕ, zero, suc, List, [], ◌∷◌, length, map, true, Option, Some, None, refl, sym, ap, subst, ◌∙◌, arith, append-nil}
use Rattle.std.specs.Prelude.{slice_get, option_map}
use Rattle.std.proofs.Math.Nat.{le-max_left, le-max_right, max-le}
use Rattle.fac_lang.specs.Phrases.{Phrase, Item, known, Mark}
use Rattle.fac_lang.proofs.SourcePrograms.{IsSessionProgram}
use Rattle.fac_lang.specs.Meaning.{nowhere}
use Rattle.fac_lang.specs.declared.program.Program.{Program}
use Rattle.fac_locals.specs.declared.cell.Cell.{Cell}
use Rattle.fac_locals.specs.Cells.{asks, cell_number, inner_cells}
use Rattle.fac_locals.specs.Literals.{Quoted, quoted_phrase, literal_numbered}
use Rattle.fac_locals.proofs.RunningPhrases.{IsRun, literal_runs}
use Rattle.fac_locals.specs.Frames.{item_or, item_in, cell_item, item_for, filled}
use Rattle.fac_locals.proofs.FrameLaws.{item_at_cell, fills}
use Rattle.fac_abs.specs.Marks.{piled, mark_depth, phrase_marks, item_marks, deepest}
use Rattle.fac_check.specs.inner.Walking.{items_of}
use Rattle.fac_check.proofs.FilledPhrases.{filled_apart, own_most, marks_most, marks_least, begins_otherwise}
use Rattle.fac_check.proofs.NamedLiterals.{ShowsCells}
use Rattle.fac_check.proofs.NamedWords.{number_below, some_below}
use Rattle.fac_check.proofs.OpenedItems.{items_length, item_there, known_put, piled_twice}

-- a phrase asks for each of these cells, and each is found under its own number
pub record ShowsAll (cs : List Cell) (t : Phrase) : Type 0 where
  pub asked : (k : ℕ) (c : Cell) → slice_get cs k ≡ Some c → asks c t ≡ true
  pub own : (k : ℕ) (c : Cell) → slice_get cs k ≡ Some c → cell_number cs c ≡ Some k

same_lists : {A : Type 0} (xs ys : List A) → length xs ≡ length ys → ((k : ℕ) (x y : A) → slice_get xs k ≡ Some x → slice_get ys k ≡ Some y → x ≡ y) → xs ≡ ys
same_lists [] [] n h = refl
same_lists [] (y ∷ ys) n h = absurd (omega (arith, n))
same_lists (x ∷ xs) [] n h = absurd (omega (arith, n))
same_lists {A} (x ∷ xs) (y ∷ ys) n h =
    ap (λ (z : A). z ∷ xs) (h 0 x y refl refl) ∙ ap (λ (zs : List A). y ∷ zs) (same_lists xs ys (omega (arith, n)) (λ k a b e f. h (suc k) a b e f))

known_apart : (ms ns : List Mark) → map known ms ≡ map known ns → ms ≡ ns
known_apart [] [] e = refl
known_apart [] (n ∷ ns) e = absurd (cc)
known_apart (m ∷ ms) [] e = absurd (cc)
known_apart (m ∷ ms) (n ∷ ns) e =
    let first : m ≡ n = cc in
    let rest : map known ms ≡ map known ns = cc in
    ap (λ (x : Mark). x ∷ ms) first ∙ ap (λ (xs : List Mark). n ∷ xs) (known_apart ms ns rest)

piled_back : (ms : List Mark) → piled (piled ms []) [] ≡ ms
piled_back ms = piled_twice ms [] [] ∙ append-nil ms

-- frames of the same items are frames of the same marks
pub items_same : (ms ns : List Mark) → items_of ms ≡ items_of ns → ms ≡ ns
items_same ms ns e = sym (piled_back ms) ∙ ap (λ (xs : List Mark). piled xs []) (known_apart (piled ms []) (piled ns []) e) ∙ piled_back ns

module _ (cs : List Cell) (t : Phrase) (shows : ShowsAll cs t) where
  pub item_here : (is : List Item) (k : ℕ) (c : Cell) (i : Item) → length is ≡ length cs → slice_get cs k ≡ Some c → slice_get is k ≡ Some i → item_for cs is c ≡ i
  item_here is k c i n e f =
      let h = item_at_cell cs is c k n (shows.own k c e) in
      let both : Some h.0 ≡ Some i = sym h.1 ∙ f in
      let same : h.0 ≡ i = cc in
      h.2 ∙ same

  pub items_apart : (is js : List Item) → length is ≡ length cs → length js ≡ length cs → filled cs is t ≡ filled cs js t → is ≡ js
  items_apart is js n m e = same_lists is js (n ∙ sym m) (λ k x y a b. by_cell k x y a b (slice_get cs k) refl)
    where
      by_cell : (k : ℕ) (x y : Item) → slice_get is k ≡ Some x → slice_get js k ≡ Some y → (o : Option Cell) → slice_get cs k ≡ o → x ≡ y
      by_cell k x y a b (Some c) f = sym (item_here is k c x n f a) ∙ filled_apart (item_for cs is) (item_for cs js) t c e (shows.asked k c f) ∙ item_here js k c y m f b
      by_cell k x y a b None f = absurd (some_below cs k (let l = number_below is k x a in omega (arith, l, n)) f)

  -- other marks make another phrase
  pub marks_apart : (ms ns : List Mark) → length ms ≡ length cs → length ns ≡ length cs → filled cs (items_of ms) t ≡ filled cs (items_of ns) t → ms ≡ ns
  marks_apart ms ns n m e = items_same ms ns (items_apart (items_of ms) (items_of ns) (items_length ms ∙ n) (items_length ns ∙ m) e)

-- How deep the marks of a frame are.

piled_most : (ms ns : List Mark) (n : ℕ) → deepest ms ≤ n → deepest ns ≤ n → deepest (piled ms ns) ≤ n
piled_most [] ns n h l = l
piled_most (m ∷ ms) ns n h l =
    let first = le-max_left (suc (mark_depth m)) (deepest ms) in
    let rest = le-max_right (suc (mark_depth m)) (deepest ms) in
    piled_most ms (m ∷ ns) n (omega (arith, h, rest)) (max-le (omega (arith, h, first)) l)

mark_among : (xs : List Mark) (k : ℕ) (i : Item) (n : ℕ) → slice_get (map known xs) k ≡ Some i → deepest xs ≤ n → item_marks i ≤ n
mark_among [] k i n e l = absurd (cc)
mark_among (x ∷ xs) zero i n e l =
    let same : known x ≡ i = cc in
    let first = le-max_left (suc (mark_depth x)) (deepest xs) in
    subst (λ (j : Item). item_marks j ≤ n) same (omega (arith, l, first))
mark_among (x ∷ xs) (suc k) i n e l = (let rest = le-max_right (suc (mark_depth x)) (deepest xs) in mark_among xs k i n e (omega (arith, l, rest)))

deepest_most : (xs : List Mark) (n : ℕ) → ((k : ℕ) (m : Mark) → slice_get xs k ≡ Some m → suc (mark_depth m) ≤ n) → deepest xs ≤ n
deepest_most [] n h = omega arith
deepest_most (x ∷ xs) n h = max-le (h 0 x refl) (deepest_most xs n (λ k m e. h (suc k) m e))

most_for : (P : Program) (cs : List Cell) (is : List Item) (c : Cell) (n : ℕ) → ((k : ℕ) (i : Item) → slice_get is k ≡ Some i → item_marks i ≤ n) → item_marks (item_for cs is c) ≤ n
most_for P cs is c n h = by_number (cell_number cs c)
  where
    by_item : (k : ℕ) (o : Option Item) → slice_get is k ≡ o → item_marks (item_or (cell_item c) o) ≤ n
    by_item k None e = own_most P c n
    by_item k (Some i) e = h k i e

    by_number : (o : Option ℕ) → item_marks (item_in is (cell_item c) o) ≤ n
    by_number None = own_most P c n
    by_number (Some k) = by_item k (slice_get is k) refl

-- the deepest mark of a phrase that runs, with a mark put for each cell, is that of a cell
module _ (P : Program) (cs : List Cell) (t : Phrase) (shows : ShowsAll cs t) (runs : IsRun P t) (ms : List Mark) (many : length ms ≡ length cs) where
  abbrev is : List Item
  is = items_of ms

  abbrev depth : ℕ
  depth = phrase_marks (filled cs is t)

  each_shows : (k : ℕ) (m : Mark) → slice_get (piled ms []) k ≡ Some m → (o : Option Cell) → slice_get cs k ≡ o → suc (mark_depth m) ≤ depth
  each_shows k m e (Some c) f =
      let here : item_for cs is c ≡ known m = item_here cs t shows is k c (known m) (items_length ms ∙ many) f (item_there ms k ∙ ap (option_map known) e) in
      subst (λ (i : Item). item_marks i ≤ depth) here (marks_least (item_for cs is) t c (shows.asked k c f))
  each_shows k m e None f =
      absurd (some_below cs k (let l = number_below is k (known m) (item_there ms k ∙ ap (option_map known) e) in let n = items_length ms in omega (arith, l, n, many)) f)

  pub marks_are : phrase_marks (filled cs is t) ≡ deepest ms
  marks_are =
      let back : deepest (piled ms []) ≤ deepest ms = piled_most ms [] (deepest ms) (omega arith) (omega arith) in
      let most : depth ≤ deepest ms = marks_most P (item_for cs is) t (deepest ms) runs (λ c. most_for P cs is c (deepest ms) (λ k i e. mark_among (piled ms []) k i (deepest ms) e back)) in
      let low : deepest (piled ms []) ≤ depth = deepest_most (piled ms []) depth (λ k m e. each_shows k m e (slice_get cs k) refl) in
      let least : deepest ms ≤ depth = subst (λ (xs : List Mark). deepest xs ≤ depth) (piled_back ms) (piled_most (piled ms []) [] depth low (omega arith)) in
      omega (arith, most, least)

-- Where each literal of a whole program shows its cells, its phrases do.
pub shows_by : (P : Program) → IsSessionProgram P → ((k : ℕ) → let l : Quoted = literal_numbered P k in ShowsAll (inner_cells l.cells l.item) (quoted_phrase l)) → ShowsCells P
shows_by P b shows = record {
  apart = λ k ms ns e f h. let l : Quoted = literal_numbered P k in marks_apart (inner_cells l.cells l.item) (quoted_phrase l) (shows k) ms ns e f h;
  marked = λ k ms e. let l : Quoted = literal_numbered P k in marks_are P (inner_cells l.cells l.item) (quoted_phrase l) (shows k) (literal_runs P b k) ms e;
  first = λ k ms t e h.
      let l : Quoted = literal_numbered P k in
      begins_otherwise P (item_for (inner_cells l.cells l.item) (items_of ms)) (quoted_phrase l) t 0 nowhere (fills (inner_cells l.cells l.item) (items_of ms) (items_length ms ∙ e) (known_put (piled ms []))) (literal_runs P b k) h;
}
