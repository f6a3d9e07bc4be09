use Rattle.std.proofs.Common.{◌≡◌, ◌++◌, drop}
use Rattle.fac_emit.specs.ProgramCode.{code_place}
use Rattle.fac_emit.specs.ProgramTables.{generics_from}
use Rattle.fac_emit.proofs.dispatch.generics_of.Given as goal

abbrev pub invariant-loop-word : goal.invariant-loop-word
invariant-loop-word l = record {
  count : l.number ≡ l.word-index;
  rows_are : generics_from l.program (code_place l.rows) 0 l.program.words ≡ l.generics ++ generics_from l.program (code_place l.rows) l.number (drop l.word-index l.program.words);
}
