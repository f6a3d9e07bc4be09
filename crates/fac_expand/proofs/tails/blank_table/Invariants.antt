use Rattle.std.proofs.Common.{◌≡◌, length}
use Rattle.fac_expand.proofs.tails.blank_table.Given as goal

abbrev pub invariant-loop-at : goal.invariant-loop-at
invariant-loop-at l = length l.table ≡ l.at
