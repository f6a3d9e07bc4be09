-- How the table is filled: the rows of built-in classes, what stands under parents, and the rows of unions.
use Rattle.std.specs.Prelude.{◌≡◌, ◌<◌, ℕ, List, length, Bool, true, false, Option, Some, slice_get, slice_set}
use Rattle.fac_lang.specs.declared.program.ClassDef.{ClassDef}
use Rattle.fac_lang.specs.declared.program.Shape.{Shape}
use Rattle.fac_lang.specs.declared.program.Shape.TheVariants.{Kind as built_in, Tuple as tuple_class, Union as union, Single as single}
use Rattle.fac_lang.specs.Classes.{shape_at, has_own, has_kind, descends}
use Rattle.fac_classes.specs.inner.Members.{IsIn, built_in_in}
use Rattle.fac_classes.specs.inner.Cells.{cell, Grows, Joins, IsRight, IsFull}

-- the kinds of a class are marked
pub record Lays (cs : List ClassDef) (w c : ℕ) (before after : List Bool) : Type 0 where
  pub grows : Grows w before after
  pub right : IsRight cs w after
  pub full : IsFull cs w after c

-- the kinds of the built-in classes among the first n are marked
pub record LaysBuiltIns (cs : List ClassDef) (w n : ℕ) (before after : List Bool) : Type 0 where
  pub grows : Grows w before after
  pub right : IsRight cs w after
  pub full : (c j : ℕ) → c < n → built_in_in (shape_at cs c) ≡ Some j → IsFull cs w after c

-- a kind is marked for a class and for all above it
pub record MarksUp (cs : List ClassDef) (w d k : ℕ) (before after : List Bool) : Type 0 where
  pub grows : Grows w before after
  pub right : IsRight cs w after
  pub marked : (c : ℕ) → descends (length cs) cs c d ≡ true → cell w after c k ≡ true

-- all kinds of classes with an own kind are marked
pub record LaysOwners (cs : List ClassDef) (w : ℕ) (before after : List Bool) : Type 0 where
  pub grows : Grows w before after
  pub right : IsRight cs w after
  pub full : (c : ℕ) (s : Shape) → shape_at cs c ≡ Some s → has_own s ≡ true → IsFull cs w after c

-- whether a class is a union
abbrev pub is_union : Shape → Bool
is_union (built_in j) = false
is_union (tuple_class p ss) = false
is_union (union ms) = true
is_union single = false

-- all kinds of classes that are no unions are marked
abbrev pub HasSimple : List ClassDef → ℕ → List Bool → Type 0
HasSimple cs w cells = (c : ℕ) (s : Shape) → shape_at cs c ≡ Some s → is_union s ≡ false → IsFull cs w cells c

-- For each class the union to whose row its own was joined last: that union has the kinds.
abbrev pub Remembers : List ClassDef → ℕ → List (Option ℕ) → List Bool → Type 0
Remembers cs w last cells = (m c k : ℕ) → slice_get last m ≡ Some (Some c) → k < w → has_kind cs m k ≡ true → cell w cells c k ≡ true

-- the row of a member is joined to that of its union, where it wasn't the last that was
pub data JoinsMember (w c m : ℕ) (last : List (Option ℕ)) (before : List Bool) (later : List (Option ℕ)) (after : List Bool) : Type 0 where
  again : slice_get last m ≡ Some (Some c) → later ≡ last → after ≡ before → JoinsMember w c m last before later after
  first : Joins w c m before after → later ≡ slice_set last m (Some c) → JoinsMember w c m last before later after

-- the kinds of a class's members are marked for it
pub record JoinsMembers (cs : List ClassDef) (w c : ℕ) (ms : List ℕ) (before after : List Bool) (last : List (Option ℕ)) : Type 0 where
  pub grows : Grows w before after
  pub right : IsRight cs w after
  pub remembers : Remembers cs w last after
  pub joined : (m k : ℕ) → IsIn m ms → k < w → has_kind cs m k ≡ true → cell w after c k ≡ true

-- all kinds of all classes are marked
pub record JoinsUnions (cs : List ClassDef) (w : ℕ) (after : List Bool) : Type 0 where
  pub right : IsRight cs w after
  pub full : (c : ℕ) → c < length cs → IsFull cs w after c
