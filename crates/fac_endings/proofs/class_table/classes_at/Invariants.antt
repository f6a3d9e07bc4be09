use Rattle.std.proofs.Common.{◌≡◌, ◌++◌, drop}
use Rattle.fac_endings.specs.ClassTable.{classes_at}
use Rattle.fac_endings.proofs.class_table.classes_at.Given as goal

abbrev pub invariant-loop-name : goal.invariant-loop-name
invariant-loop-name l = classes_at l.drafts l.names ≡ l.classes ++ classes_at l.drafts (drop l.name-index l.names)
