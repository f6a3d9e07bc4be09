use Rattle.std.proofs.Common.{[], get_or}
use Rattle.fac_abs.specs.inner.Stacks.{zeros}
use Rattle.fac_abs.specs.inner.Keeping.{Going}
use Rattle.fac_abs.proofs.stack_nodes.StackNodes.zeros.Given as goal

abbrev pub invariant-loop-left : goal.invariant-loop-left
invariant-loop-left l = Going l.initial.self l.self l.stack (zeros l.left (get_or l.self l.stack [])) (zeros l.initial.left (get_or l.initial.self l.initial.stack []))

abbrev pub decreases-loop-left : goal.decreases-loop-left
decreases-loop-left l = l.left
