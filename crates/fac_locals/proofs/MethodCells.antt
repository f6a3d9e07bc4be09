-- A method's phrase asks for the same cells as the phrase that is written.
use Rattle.std.proofs.Common.{◌≡◌, ℕ, suc, List, [], ◌∷◌, ◌++◌, Bool, true, false, ◌&&◌, ◌||◌, not, map, refl, sym, ap, ap₂, ◌∙◌}
use Rattle.std.specs.List.{list_any}
use Rattle.std.proofs.lemmas.List.{map-append}
use Rattle.fac_lang.specs.Phrases.{Phrase, end, then, Item, lit, lit_arr, quot, word, bind, local, fry, hole, call_effect, execute_effect, next_method, made, next_after, held, known}
use Rattle.fac_lang.specs.Substitution.{of_method, of_method_item}
use Rattle.fac_locals.specs.declared.cell.Cell.{Cell}
use Rattle.fac_locals.specs.declared.cell.Cell.TheVariants.{Local, Hole}
use Rattle.fac_locals.specs.declared.asking.Asked.{Asked}
use Rattle.fac_locals.specs.Cells.{same_cell, is_local, binds_cell, asks, item_asks, cells_behind, captured_from, kept_cells, inner_cells, hole_cells}
use Rattle.fac_locals.specs.Asked.{AskedBy, AreAskedBy, quotations_in, quotations_at}

pub binds_of_method : (m : ℕ) (c : Cell) (i : Item) → binds_cell c (of_method_item m i) ≡ binds_cell c i
binds_of_method m (Hole k) i = refl
binds_of_method m (Local x) (lit p) = refl
binds_of_method m (Local x) (lit_arr a) = refl
binds_of_method m (Local x) (quot t) = refl
binds_of_method m (Local x) (word w) = refl
binds_of_method m (Local x) (bind y) = refl
binds_of_method m (Local x) (local y) = refl
binds_of_method m (Local x) (fry t n) = refl
binds_of_method m (Local x) (hole k) = refl
binds_of_method m (Local x) (call_effect h) = refl
binds_of_method m (Local x) (execute_effect h) = refl
binds_of_method m (Local x) next_method = refl
binds_of_method m (Local x) (made k) = refl
binds_of_method m (Local x) (next_after n) = refl
binds_of_method m (Local x) (held v) = refl
binds_of_method m (Local x) (known k) = refl

mutual
  pub asks_of_method : (m : ℕ) (c : Cell) (t : Phrase) → asks c (of_method m t) ≡ asks c t
  asks_of_method m c end = refl
  asks_of_method m c (then i p t) =
      ap₂ (λ (a b : Bool). a || (not b && asks c (of_method m t))) (item_asks_of_method m c i) (binds_of_method m c i) ∙ ap (λ (a : Bool). item_asks c i || (not (binds_cell c i) && a)) (asks_of_method m c t)

  pub item_asks_of_method : (m : ℕ) (c : Cell) (i : Item) → item_asks c (of_method_item m i) ≡ item_asks c i
  item_asks_of_method m c (quot t) = asks_of_method m c t
  item_asks_of_method m c (fry t n) = ap (λ (a : Bool). is_local c && a) (asks_of_method m c t)
  item_asks_of_method m c (lit p) = refl
  item_asks_of_method m c (lit_arr a) = refl
  item_asks_of_method m c (word w) = refl
  item_asks_of_method m c (bind y) = refl
  item_asks_of_method m c (local y) = refl
  item_asks_of_method m c (hole k) = refl
  item_asks_of_method m c (call_effect h) = refl
  item_asks_of_method m c (execute_effect h) = refl
  item_asks_of_method m c next_method = refl
  item_asks_of_method m c (made k) = refl
  item_asks_of_method m c (next_after n) = refl
  item_asks_of_method m c (held v) = refl
  item_asks_of_method m c (known k) = refl

pub asked_by_of_method : (m : ℕ) (i : Item) (a : Asked) → AskedBy i a → AskedBy (of_method_item m i) a
asked_by_of_method m i a h c = h c ∙ sym (item_asks_of_method m c i)

-- it keeps the same cells
pub captured_of_method : (m k : ℕ) (cs : List Cell) (i : Item) → captured_from k cs (of_method_item m i) ≡ captured_from k cs i
captured_of_method m k [] i = refl
captured_of_method m k (c ∷ cs) i =
    ap (λ (b : Bool). elim (b && not (list_any (same_cell c) cs)) [ true ↦ k ∷ captured_from (suc k) cs (of_method_item m i) | false ↦ captured_from (suc k) cs (of_method_item m i) ]) (item_asks_of_method m c i)
    ∙ ap (λ (ks : List ℕ). elim (item_asks c i && not (list_any (same_cell c) cs)) [ true ↦ k ∷ ks | false ↦ ks ]) (captured_of_method m (suc k) cs i)

pub kept_of_method : (m : ℕ) (cs : List Cell) (i : Item) → kept_cells cs (of_method_item m i) ≡ kept_cells cs i
kept_of_method m [] i = refl
kept_of_method m (c ∷ cs) i =
    ap (λ (b : Bool). elim (b && not (list_any (same_cell c) cs)) [ true ↦ c ∷ kept_cells cs (of_method_item m i) | false ↦ kept_cells cs (of_method_item m i) ]) (item_asks_of_method m c i)
    ∙ ap (λ (ds : List Cell). elim (item_asks c i && not (list_any (same_cell c) cs)) [ true ↦ c ∷ ds | false ↦ ds ]) (kept_of_method m cs i)

pub inner_of_quotation : (m : ℕ) (cs : List Cell) (t : Phrase) → inner_cells cs (quot (of_method m t)) ≡ inner_cells cs (quot t)
inner_of_quotation m cs t = ap (λ (ds : List Cell). ds ++ []) (kept_of_method m cs (quot t))

pub inner_of_fry : (m : ℕ) (cs : List Cell) (t : Phrase) (n : ℕ) → inner_cells cs (fry (of_method m t) n) ≡ inner_cells cs (fry t n)
inner_of_fry m cs t n = ap (λ (ds : List Cell). ds ++ hole_cells n) (kept_of_method m cs (fry t n))

-- the cells behind an item
pub behind_of_method : (m : ℕ) (cs : List Cell) (i : Item) → cells_behind cs (of_method_item m i) ≡ cells_behind cs i
behind_of_method m cs (lit p) = refl
behind_of_method m cs (lit_arr a) = refl
behind_of_method m cs (quot t) = refl
behind_of_method m cs (word w) = refl
behind_of_method m cs (bind y) = refl
behind_of_method m cs (local y) = refl
behind_of_method m cs (fry t n) = refl
behind_of_method m cs (hole k) = refl
behind_of_method m cs (call_effect h) = refl
behind_of_method m cs (execute_effect h) = refl
behind_of_method m cs next_method = refl
behind_of_method m cs (made k) = refl
behind_of_method m cs (next_after n) = refl
behind_of_method m cs (held v) = refl
behind_of_method m cs (known k) = refl

-- its quotations and fries, and what they ask for
mutual
  pub quotations_of_method : (m : ℕ) (t : Phrase) → quotations_in (of_method m t) ≡ map (of_method_item m) (quotations_in t)
  quotations_of_method m end = refl
  quotations_of_method m (then i p t) =
      ap₂ (λ (a b : List Item). a ++ b) (quotations_of_method_item m i) (quotations_of_method m t) ∙ sym (map-append (of_method_item m) (quotations_at i) (quotations_in t))

  quotations_of_method_item : (m : ℕ) (i : Item) → quotations_at (of_method_item m i) ≡ map (of_method_item m) (quotations_at i)
  quotations_of_method_item m (quot t) = ap (λ (is : List Item). quot (of_method m t) ∷ is) (quotations_of_method m t)
  quotations_of_method_item m (fry t n) = ap (λ (is : List Item). fry (of_method m t) n ∷ is) (quotations_of_method m t)
  quotations_of_method_item m (lit p) = refl
  quotations_of_method_item m (lit_arr a) = refl
  quotations_of_method_item m (word w) = refl
  quotations_of_method_item m (bind y) = refl
  quotations_of_method_item m (local y) = refl
  quotations_of_method_item m (hole k) = refl
  quotations_of_method_item m (call_effect h) = refl
  quotations_of_method_item m (execute_effect h) = refl
  quotations_of_method_item m next_method = refl
  quotations_of_method_item m (made k) = refl
  quotations_of_method_item m (next_after n) = refl
  quotations_of_method_item m (held v) = refl
  quotations_of_method_item m (known k) = refl

pub are_asked_by_of_method : (m : ℕ) (is : List Item) (all : List Asked) → AreAskedBy is all → AreAskedBy (map (of_method_item m) is) all
are_asked_by_of_method m [] all h = h
are_asked_by_of_method m (i ∷ is) all h = (h.0, h.1, h.2, asked_by_of_method m i h.0 h.3, are_asked_by_of_method m is h.1 h.4)
