use Rattle.std.proofs.Common.{◌≡◌, ◌<◌, [], ◌++◌, length, get_or}
use Rattle.fac_abs.specs.inner.Stacks.{joined_numbers}
use Rattle.fac_abs.proofs.stack_nodes.StackNodes.differing.Given as goal

abbrev pub invariant-loop-left : goal.invariant-loop-left
invariant-loop-left l = (l.left < length l.self) × (l.right < length l.self) × (length (get_or l.self l.left []) ≡ length (get_or l.self l.right [])) × (joined_numbers (get_or l.self l.initial.left []) (get_or l.self l.initial.right []) ≡ l.marks.items ++ joined_numbers (get_or l.self l.left []) (get_or l.self l.right []))

abbrev pub decreases-loop-left : goal.decreases-loop-left
decreases-loop-left l = length (get_or l.self l.left [])
