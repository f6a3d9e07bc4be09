use Rattle.std.proofs.Common.{◌≡◌, ◌++◌, drop}
use Rattle.fac_emit.specs.ProgramTables.{sets_from}
use Rattle.fac_emit.proofs.tables.sets_of.Given as goal

abbrev pub invariant-loop-class : goal.invariant-loop-class
invariant-loop-class l = sets_from l.classes 0 l.classes ≡ l.sets ++ sets_from l.classes l.class (drop l.class l.classes)
