use Rattle.std.proofs.Common.{◌≡◌, ◌++◌, drop}
use Rattle.fac_emit.specs.ProgramTables.{kinds_from, program_kinds}
use Rattle.fac_emit.proofs.tables.kinds_of.Given as goal

abbrev pub invariant-loop-class : goal.invariant-loop-class
invariant-loop-class l = record {
  count : l.number ≡ l.class-index;
  rows_are : program_kinds l.emission ≡ l.rows ++ kinds_from l.emission l.number (drop l.class-index l.emission.program.classes);
}
