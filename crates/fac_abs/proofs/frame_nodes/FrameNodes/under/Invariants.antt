use Rattle.std.proofs.Common.{◌≡◌, ◌<◌, [], length, get_or}
use Rattle.fac_abs.specs.InTurn.{under}
use Rattle.fac_abs.proofs.frame_nodes.FrameNodes.under.Given as goal

abbrev pub invariant-loop-left : goal.invariant-loop-left
invariant-loop-left l = (l.rest < length l.self) × (under l.left (get_or l.self l.rest []) ≡ under l.initial.left (get_or l.self l.initial.rest []))

abbrev pub decreases-loop-left : goal.decreases-loop-left
decreases-loop-left l = l.left
