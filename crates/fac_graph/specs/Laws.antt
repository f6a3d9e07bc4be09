-- Laws of paths.
use Rattle.std.specs.Prelude.{◌≡◌, ◌↔◌, ℕ, List, length, map, Bool, true, Some, slice_get}
use Rattle.fac_lang.specs.declared.program.ClassDef.{ClassDef}
use Rattle.fac_lang.specs.Whole.{parts_of, reaches}
use Rattle.fac_graph.specs.Paths.{LeadsTo, AreLeadingBack, leads_within}

-- A path leads from one node to another exactly where one does that has no more edges than there are nodes.
abbrev pub ShortPathsSuffice : Type 0
ShortPathsSuffice = (edges : List (List ℕ)) (u v : ℕ) → (leads_within (length edges) edges u v ≡ true) ↔ LeadsTo edges u v

-- the graph of classes: edges go from a class to its parent or its members
abbrev pub class_edges : List ClassDef → List (List ℕ)
class_edges cs = map (λ (d : ClassDef). parts_of (Some d.shape)) cs

-- A class reaches itself by parents and members exactly where it leads back to itself in the graph of classes.
abbrev pub CyclesOfClasses : Type 0
CyclesOfClasses = (cs : List ClassDef) (flags : List Bool) → AreLeadingBack (class_edges cs) flags → (c : ℕ) (b : Bool) → slice_get flags c ≡ Some b → b ≡ reaches (length cs) cs c c
