-- A table of which classes have which kinds, row by row in one list of cells, and how it is filled: cells are marked, and none is taken back.
use Rattle.std.specs.Prelude.{◌≡◌, ◌⊎◌, ◌<◌, ℕ, ◌+◌, ◌*◌, List, length, get_or, Bool, true, false}
use Rattle.fac_lang.specs.declared.program.ClassDef.{ClassDef}
use Rattle.fac_lang.specs.Classes.{has_kind}
use Rattle.fac_classes.specs.ClassKinds.{kind_total}

-- whether kind k of class c is marked in a table with rows of w cells
unfoldable pub cell : ℕ → List Bool → ℕ → ℕ → Bool
cell w cells c k = get_or cells (c * w + k) false

-- what was marked still is
abbrev pub Grows : ℕ → List Bool → List Bool → Type 0
Grows w before after = (c k : ℕ) → k < w → cell w before c k ≡ true → cell w after c k ≡ true

-- kind k of class c is marked, and nothing else
pub record Marks (w c k : ℕ) (before after : List Bool) : Type 0 where
  pub grows : Grows w before after
  pub only : (d j : ℕ) → j < w → cell w after d j ≡ true → (cell w before d j ≡ true) ⊎ ((d ≡ c) × (j ≡ k))
  pub marked : cell w after c k ≡ true

-- what is marked in one row is marked in another, and nothing else
pub record Joins (w to from : ℕ) (before after : List Bool) : Type 0 where
  pub grows : Grows w before after
  pub only : (d j : ℕ) → j < w → cell w after d j ≡ true → (cell w before d j ≡ true) ⊎ ((d ≡ to) × (cell w before from j ≡ true))
  pub joined : (j : ℕ) → j < w → cell w before from j ≡ true → cell w after to j ≡ true

-- each class has the kinds that are marked for it
abbrev pub IsRight : List ClassDef → ℕ → List Bool → Type 0
IsRight cs w cells = (c k : ℕ) → c < length cs → k < w → cell w cells c k ≡ true → has_kind cs c k ≡ true

-- all kinds of a class are marked
abbrev pub IsFull : List ClassDef → ℕ → List Bool → ℕ → Type 0
IsFull cs w cells c = (k : ℕ) → k < w → has_kind cs c k ≡ true → cell w cells c k ≡ true

-- a row for each class, with its kinds
pub record IsTable (cs : List ClassDef) (w : ℕ) (cells : List Bool) : Type 0 where
  pub width : w ≡ kind_total cs
  pub sized : length cells ≡ length cs * w
  pub exact : (c k : ℕ) → c < length cs → k < w → cell w cells c k ≡ has_kind cs c k
