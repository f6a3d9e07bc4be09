use Rattle.std.proofs.Common.{◌≡◌, ◌++◌, drop}
use Rattle.fac_emit.specs.ProgramTables.{pairs_from, program_pairs}
use Rattle.fac_emit.proofs.tables.pairs_of.Given as goal

abbrev pub invariant-loop-word : goal.invariant-loop-word
invariant-loop-word l = record {
  count : l.number ≡ l.word-index;
  pairs_are : program_pairs l.emission.program ≡ l.pairs ++ pairs_from l.emission.program.classes l.number (drop l.word-index l.emission.program.words);
}
