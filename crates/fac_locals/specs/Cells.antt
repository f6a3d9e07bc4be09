-- The cells of the frame under which a phrase runs: what each holds, and which of them a quotation or a fry keeps. Frames are numbered from 0: first
-- the cells that were captured, then those of the holes, then one for each local that was bound, in this order.
use Rattle.std.specs.Prelude.{ℕ, zero, suc, List, [], ◌∷◌, ◌++◌, Bool, true, false, ◌&&◌, ◌||◌, not, nat_eq, Option, Some, None}
use Rattle.std.specs.List.{list_any}
use Rattle.fac_lang.specs.Phrases.{Phrase, end, then, Item, quot, bind, local, fry, hole}
use Rattle.fac_lang.specs.Substitution.{binds_local}
use Rattle.fac_locals.specs.declared.cell.Cell.{Cell}
use Rattle.fac_locals.specs.declared.cell.Cell.TheVariants.{Local, Hole}

-- whether two cells hold the same
abbrev pub same_cell : Cell → Cell → Bool
same_cell (Local x) (Local y) = nat_eq x y
same_cell (Hole j) (Hole k) = nat_eq j k
same_cell (Local x) (Hole k) = false
same_cell (Hole k) (Local x) = false

-- The number of the last of these cells that holds the same, where the first of them has number k: an inner local hides an outer one.
abbrev pub number_from : ℕ → List Cell → Cell → Option ℕ
number_from k [] c = None
number_from k (d ∷ ds) c = elim (number_from (suc k) ds c) [ Some j ↦ Some j | None ↦ elim (same_cell c d) [ true ↦ Some k | false ↦ None ] ]

abbrev pub cell_number : List Cell → Cell → Option ℕ
cell_number cells c = number_from 0 cells c

-- the cells behind an item that stands under these
abbrev pub cells_behind : List Cell → Item → List Cell
cells_behind cells (bind x) = cells ++ Local x ∷ []
cells_behind cells _ = cells

-- whether it is a local's
abbrev pub is_local : Cell → Bool
is_local (Local x) = true
is_local (Hole k) = false

-- whether an item binds the local that a cell holds
abbrev pub binds_cell : Cell → Item → Bool
binds_cell (Local x) i = binds_local x i
binds_cell (Hole k) i = false

-- Whether a phrase asks for what a cell holds: for a local that it doesn't bind before, or for a hole of the fry around it. Holes in a nested fry belong to that fry.
abbrev mutual
  pub asks : Cell → Phrase → Bool
  asks c end = false
  asks c (then i p t) = item_asks c i || (not (binds_cell c i) && asks c t)

  pub item_asks : Cell → Item → Bool
  item_asks c (local x) = same_cell c (Local x)
  item_asks c (hole k) = same_cell c (Hole k)
  item_asks c (quot t) = asks c t
  item_asks c (fry t n) = is_local c && asks c t
  item_asks c _ = false

-- whether a quotation or fry keeps the value of a cell, behind which these stand: it asks for it, and none of these hides it
abbrev pub keeps_cell : Item → Cell → List Cell → Bool
keeps_cell i c later = item_asks c i && not (list_any (same_cell c) later)

-- the numbers of the cells whose values a quotation or fry keeps, ascending, where the first cell has number k
abbrev pub captured_from : ℕ → List Cell → Item → List ℕ
captured_from k [] i = []
captured_from k (c ∷ cs) i = elim (keeps_cell i c cs) [ true ↦ k ∷ captured_from (suc k) cs i | false ↦ captured_from (suc k) cs i ]

abbrev pub captured : List Cell → Item → List ℕ
captured cells i = captured_from 0 cells i

-- what these cells hold
abbrev pub kept_cells : List Cell → Item → List Cell
kept_cells [] i = []
kept_cells (c ∷ cs) i = elim (keeps_cell i c cs) [ true ↦ c ∷ kept_cells cs i | false ↦ kept_cells cs i ]

-- the first n holes of a fry
abbrev pub hole_cells : ℕ → List Cell
hole_cells zero = []
hole_cells (suc n) = hole_cells n ++ Hole n ∷ []

-- the phrase of a quotation or fry, and how many holes it has
abbrev pub inner_phrase : Item → Phrase
inner_phrase (quot t) = t
inner_phrase (fry t n) = t
inner_phrase _ = end

abbrev pub hole_count : Item → ℕ
hole_count (fry t n) = n
hole_count _ = 0

-- the cells with which the phrase of a quotation or fry begins that stands under these
abbrev pub inner_cells : List Cell → Item → List Cell
inner_cells cells i = kept_cells cells i ++ hole_cells (hole_count i)
