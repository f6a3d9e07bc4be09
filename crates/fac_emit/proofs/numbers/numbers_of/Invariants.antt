use Rattle.std.proofs.Common.{◌≡◌, ◌++◌, ◌≤◌, drop}
use Rattle.fac_emit.specs.ProgramTables.{numbers_from, generic_number, word_numbers}
use Rattle.fac_emit.proofs.numbers.numbers_of.Given as goal

abbrev pub invariant-loop-word : goal.invariant-loop-word
invariant-loop-word l = record {
  count : l.number ≡ l.word-index;
  generics_are : l.generics ≡ generic_number l.closed.program l.number;
  few : l.generics ≤ l.number;
  numbers_are : word_numbers l.closed ≡ l.numbers ++ numbers_from l.closed l.number (drop l.word-index l.closed.program.words);
}
