-- What the quotations and fries of a phrase ask for, in reading order, an outer one before those in it.
use Rattle.std.specs.Prelude.{◌≡◌, ℕ, suc, List, [], ◌∷◌, ◌++◌, Bool, true, false, ◌&&◌, not, nat_eq, Option, Some, None, slice_get}
use Rattle.std.specs.List.{list_any}
use Rattle.fac_lang.specs.Phrases.{Phrase, end, then, Item, quot, fry}
use Rattle.fac_locals.specs.declared.cell.Cell.{Cell}
use Rattle.fac_locals.specs.declared.cell.Cell.TheVariants.{Local, Hole}
use Rattle.fac_locals.specs.declared.asking.Asked.{Asked}
use Rattle.fac_locals.specs.Cells.{same_cell, asks, item_asks}

-- whether a cell is among these
abbrev pub has_cell : Asked → Cell → Bool
has_cell a (Local x) = list_any (nat_eq x) a.locals
has_cell a (Hole k) = list_any (nat_eq k) a.holes

-- a phrase asks for these cells
abbrev pub AsksFor : Phrase → Asked → Type 0
AsksFor t a = (c : Cell) → has_cell a c ≡ asks c t

-- a quotation or fry asks for these cells
abbrev pub AskedBy : Item → Asked → Type 0
AskedBy i a = (c : Cell) → has_cell a c ≡ item_asks c i

-- The quotations and fries of a phrase in reading order. Those in literal arrays aren't among them.
abbrev mutual
  pub quotations_in : Phrase → List Item
  quotations_in end = []
  quotations_in (then i p t) = quotations_at i ++ quotations_in t

  pub quotations_at : Item → List Item
  quotations_at (quot t) = quot t ∷ quotations_in t
  quotations_at (fry t n) = fry t n ∷ quotations_in t
  quotations_at _ = []

-- these quotations and fries ask for these cells, one by one
abbrev pub AreAskedBy : List Item → List Asked → Type 0
AreAskedBy [] all = all ≡ []
AreAskedBy (i ∷ is) all = (a : Asked) × (r : List Asked) × (all ≡ a ∷ r) × AskedBy i a × AreAskedBy is r

-- the first of a list is taken, where there is one
abbrev pub FirstTaken : List Asked → Option Asked → List Asked → Type 0
FirstTaken before (Some a) behind = before ≡ a ∷ behind
FirstTaken before None behind = (before ≡ []) × (behind ≡ [])

-- The numbers of the cells that are asked for and that no later cell hides, where the first has number k.
abbrev pub kept_from : ℕ → List Cell → (Cell → Bool) → List ℕ
kept_from k [] asked = []
kept_from k (c ∷ cs) asked = elim (asked c && not (list_any (same_cell c) cs)) [ true ↦ k ∷ kept_from (suc k) cs asked | false ↦ kept_from (suc k) cs asked ]

-- what the cells of these numbers hold, where they are there
abbrev pub cells_of : List Cell → List ℕ → List Cell
cells_of cs [] = []
cells_of cs (k ∷ ks) = elim (slice_get cs k) [ Some c ↦ c ∷ cells_of cs ks | None ↦ cells_of cs ks ]
