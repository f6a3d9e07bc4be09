-- Which cells the phrase of a quotation or fry asks for: those that it keeps, and its holes.
use Rattle.std.proofs.Common.{◌≡◌, ℕ, zero, suc, List, [], ◌∷◌, Bool, true, false, Some, refl, ap, subst, ◌∙◌}
use Rattle.std.specs.Prelude.{◌||◌, not, slice_get}
use Rattle.std.specs.List.{list_any}
use Rattle.fac_lang.specs.Phrases.{Phrase, end, then, Item, quot, fry, hole}
use Rattle.fac_lang.specs.Whole.{has_hole, item_has_hole}
use Rattle.fac_locals.specs.declared.cell.Cell.{Cell}
use Rattle.fac_locals.specs.declared.cell.Cell.TheVariants.{Hole}
use Rattle.fac_locals.specs.Cells.{same_cell, asks, item_asks, is_local, keeps_cell, kept_cells}
use Rattle.fac_abs.proofs.EqualMarks.{and_first, and_second}

-- a phrase asks for the holes that stand in it
mutual
  pub same_holes : (k : ℕ) (t : Phrase) → asks (Hole k) t ≡ has_hole k t
  same_holes k end = refl
  same_holes k (then i p t) = ap (λ (b : Bool). b || asks (Hole k) t) (same_item_holes k i) ∙ ap (λ (b : Bool). item_has_hole k i || b) (same_holes k t)

  same_item_holes : (k : ℕ) (i : Item) → item_asks (Hole k) i ≡ item_has_hole k i
  same_item_holes k (hole j) = refl
  same_item_holes k (quot t) = same_holes k t
  same_item_holes k _ = refl

-- an item asks for the cells that it keeps
pub kept_asked : (cs : List Cell) (i : Item) (k : ℕ) (c : Cell) → slice_get (kept_cells cs i) k ≡ Some c → item_asks c i ≡ true
kept_asked [] i k c e = absurd (cc)
kept_asked (d ∷ ds) i k c e = by_bool (λ j f. kept_asked ds i j c f) (keeps_cell i d ds) refl k e
  where
    by_bool : ((j : ℕ) → slice_get (kept_cells ds i) j ≡ Some c → item_asks c i ≡ true) → (b : Bool) → keeps_cell i d ds ≡ b → (j : ℕ) → slice_get (elim b [ true ↦ d ∷ kept_cells ds i | false ↦ kept_cells ds i ]) j ≡ Some c → item_asks c i ≡ true
    by_bool later true h zero f = (let same : d ≡ c = cc in subst (λ (x : Cell). item_asks x i ≡ true) same (and_first (item_asks d i) (not (list_any (same_cell d) ds)) h))
    by_bool later true h (suc j) f = later j f
    by_bool later false h j f = later j f

-- and the body of a fry does
pub fry_asked : (c : Cell) (t : Phrase) (n : ℕ) → item_asks c (fry t n) ≡ true → asks c t ≡ true
fry_asked c t n a = and_second (is_local c) (asks c t) a
