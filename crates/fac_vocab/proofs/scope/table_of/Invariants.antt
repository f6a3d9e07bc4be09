use Rattle.std.proofs.Common.{◌≡◌, length, drop, ◌++◌}
use Rattle.fac_vocab.specs.Scopes.{entries_from}
use Rattle.fac_vocab.proofs.scope.table_of.Given as goal

abbrev pub invariant-loop-word : goal.invariant-loop-word
invariant-loop-word l = entries_from 0 l.words ≡ l.table ++ entries_from (length l.table) (drop l.word-index l.words)
