use Rattle.std.proofs.Common.{◌≡◌, ◌<◌, ◌≤◌, [], max, true, length, get_or}
use Rattle.std.specs.Map.{keys_of, values_of}
use Rattle.fac_base.specs.declared.limits.TheConstants.{MOST_MARK_DEPTH}
use Rattle.fac_abs.specs.SeenMarks.{are_below}
use Rattle.fac_abs.specs.inner.Interning.{deepest_of}
use Rattle.fac_abs.proofs.table.frame_depth.Given as goal

abbrev pub invariant-loop-mark : goal.invariant-loop-mark
invariant-loop-mark l = (l.rest < length l.frames) × (are_below (length (keys_of l.nodes)) (get_or l.frames l.rest []) ≡ true) × (l.depth ≤ MOST_MARK_DEPTH) × (deepest_of (values_of l.nodes) (get_or l.frames l.initial.rest []) ≡ max l.depth (deepest_of (values_of l.nodes) (get_or l.frames l.rest [])))

abbrev pub decreases-loop-mark : goal.decreases-loop-mark
decreases-loop-mark l = length (get_or l.frames l.rest [])
