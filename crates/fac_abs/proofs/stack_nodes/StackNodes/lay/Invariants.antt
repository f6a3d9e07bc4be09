use Rattle.std.proofs.Common.{[], ◌++◌, length, get_or}
use Rattle.fac_abs.specs.inner.Keeping.{Going}
use Rattle.fac_abs.proofs.stack_nodes.StackNodes.lay.Given as goal

abbrev pub invariant-loop-mark : goal.invariant-loop-mark
invariant-loop-mark l = Going l.initial.self l.self l.stack (l.left.items ++ get_or l.self l.stack []) (l.initial.left.items ++ get_or l.initial.self l.initial.stack [])

abbrev pub decreases-loop-mark : goal.decreases-loop-mark
decreases-loop-mark l = length l.left.items
