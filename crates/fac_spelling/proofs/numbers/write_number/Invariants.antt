use Rattle.std.proofs.Common.{◌++◌}
use Rattle.fac_spelling.proofs.NumberLaws.{Completes}
use Rattle.fac_spelling.proofs.numbers.write_number.Given as goal
use Rattle.fac_spelling.specs.Numbers.{shortest}

abbrev pub invariant-loop-left : goal.invariant-loop-left
invariant-loop-left l = Completes l.out l.left (l.fn.out ++ shortest l.number)

abbrev pub decreases-loop-left : goal.decreases-loop-left
decreases-loop-left l = l.left
