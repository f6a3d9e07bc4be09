-- How the slots of classes are counted: the way up from a class by its parents, and back down.
use Rattle.std.specs.Prelude.{◌≡◌, ◌<◌, ◌++◌, ℕ, zero, suc, List, [], ◌∷◌, length, set, Bool, true, false, nat_le, ◌&&◌, Option, Some, None, slice_get}
use Rattle.fac_lang.specs.declared.program.ClassDef.{ClassDef}
use Rattle.fac_lang.specs.Classes.{shape_at, parent_in, slots_within}
use Rattle.fac_graph.specs.Paths.{IsOneOf}
use Rattle.fac_graph.specs.declared.slots.SlotCount.{SlotCount}
use Rattle.fac_graph.specs.declared.slots.SlotCount.TheVariants.{Unmet, OnWay, Known}
use Rattle.fac_graph.specs.declared.slots.Counting.{Counting}

-- what holds of the parent, where there is one
abbrev pub of_parent : (ℕ → Bool) → Option ℕ → Bool
of_parent test None = true
of_parent test (Some p) = test p

-- whether the way up from a class has at most n classes; one that isn't there is none of them
abbrev pub ends : ℕ → List ClassDef → ℕ → Bool
ends zero cs c = nat_le (length cs) c
ends (suc n) cs c = of_parent (ends n cs) (parent_in (shape_at cs c))

-- Class c has n slots, as far as its way up goes.
pub record Counts (cs : List ClassDef) (c n : ℕ) : Type 0 where
  pub steps : ℕ
  pub at_end : ends steps cs c ≡ true
  pub count : length (slots_within steps cs c) ≡ n

-- likewise a class that may not be there
abbrev pub CountsIf : List ClassDef → Option ℕ → ℕ → Type 0
CountsIf cs None n = n ≡ 0
CountsIf cs (Some c) n = Counts cs c n

-- the first class of a way, or what stands behind it
abbrev pub first_or : Option ℕ → List ℕ → Option ℕ
first_or at [] = at
first_or at (c ∷ cs) = Some c

-- Each class of a way is followed by its parent; the parent of the last one stands behind it.
abbrev pub IsLine : List ClassDef → List ℕ → Option ℕ → Type 0
IsLine cs [] at = Unit {0}
IsLine cs (c ∷ way) at = (parent_in (shape_at cs c) ≡ first_or at way) × IsLine cs way at

abbrev pub known_or_none : Option SlotCount → SlotCount
known_or_none None = Known 0
known_or_none (Some s) = s

-- whether a class was met; a number that isn't a class's counts as one that was
abbrev pub is_met : Option SlotCount → Bool
is_met (Some Unmet) = false
is_met _ = true

-- whether it is counted
abbrev pub is_known : Option SlotCount → Bool
is_known (Some (Known n)) = true
is_known _ = false

-- What is known where this class stands behind the way, or none.
pub record Climbs (cs : List ClassDef) (standings : List SlotCount) (way : List ℕ) (at : Option ℕ) : Type 0 where
  pub counted : length standings ≡ length cs
  pub known : (c n : ℕ) → slice_get standings c ≡ Some (Known n) → Counts cs c n
  pub on_way : (c : ℕ) → slice_get standings c ≡ Some OnWay → IsOneOf c way
  pub low : (c : ℕ) → IsOneOf c way → c < length cs
  pub line : IsLine cs way at

abbrev pub IsClimbing : List ClassDef → Counting → Option ℕ → Type 0
IsClimbing cs c at = Climbs cs c.standings.items c.way.items at

-- nothing is on the way
pub record IsIdle (cs : List ClassDef) (c : Counting) : Type 0 where
  pub climbing : IsClimbing cs c None
  pub nothing : c.way.items ≡ []

-- a class is put on the way
pub record IsMet (class : ℕ) (before after : Counting) : Type 0 where
  pub standings_are : after.standings.items ≡ set before.standings.items class OnWay
  pub way_is : after.way.items ≡ before.way.items ++ class ∷ []

-- classes that were met stay so
abbrev pub KeepsMet : List SlotCount → List SlotCount → Type 0
KeepsMet before after = (c : ℕ) → is_met (slice_get before c) ≡ true → is_met (slice_get after c) ≡ true

-- the way up from this class has come to its end, or to a class that is counted, which has so many slots
pub record Climbed (cs : List ClassDef) (class : ℕ) (before after : Counting) (above : ℕ) : Type 0 where
  pub at : Option ℕ
  pub climbing : IsClimbing cs after at
  pub above_is : CountsIf cs at above
  pub kept : KeepsMet before.standings.items after.standings.items
  pub met : is_met (slice_get after.standings.items class) ≡ true

-- what stands behind the way has so many slots
pub record MayDescend (cs : List ClassDef) (c : Counting) (above : ℕ) : Type 0 where
  pub at : Option ℕ
  pub climbing : IsClimbing cs c at
  pub above_is : CountsIf cs at above

-- all classes of the way are counted
pub record Visits (cs : List ClassDef) (before after : Counting) : Type 0 where
  pub idle : IsIdle cs after
  pub kept : KeepsMet before.standings.items after.standings.items

-- likewise from a class on
pub record VisitsOne (cs : List ClassDef) (class : ℕ) (before after : Counting) : Type 0 where
  pub idle : IsIdle cs after
  pub kept : KeepsMet before.standings.items after.standings.items
  pub met : is_met (slice_get after.standings.items class) ≡ true

-- whether all classes are counted
abbrev pub all_known : List SlotCount → Bool
all_known [] = true
all_known (s ∷ standings) = is_known (Some s) && all_known standings

pub record IsOver (cs : List ClassDef) (c : Counting) : Type 0 where
  pub idle : IsIdle cs c
  pub all : all_known c.standings.items ≡ true
