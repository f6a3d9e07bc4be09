use Rattle.std.proofs.Common.{◌≡◌, ◌++◌, map, take}
use Rattle.fac_endings.specs.ClassTable.{class_of}
use Rattle.fac_endings.proofs.class_table.classes_of.Given as goal

abbrev pub invariant-loop-class : goal.invariant-loop-class
invariant-loop-class l = l.classes ≡ l.initial.classes ++ map (class_of l.drafts) (take l.class-index l.new)
