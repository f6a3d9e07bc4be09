use Rattle.std.proofs.Common.{◌≡◌, ◌++◌, drop}
use Rattle.fac_check.specs.inner.UndeclaredRecursion.{left_out}
use Rattle.fac_check.proofs.recursion.leave_out.Given as goal

abbrev pub invariant-loop-other : goal.invariant-loop-other
invariant-loop-other l = left_out l.number l.numbers ≡ l.left ++ left_out l.number (drop l.other-index l.other-items)
