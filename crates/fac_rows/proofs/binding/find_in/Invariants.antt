use Rattle.std.proofs.Common.{◌≡◌, ◌≤◌, length, reverse, take}
use Rattle.std.specs.Option.{option_copied}
use Rattle.fac_rows.specs.RowBinding.{bound_to}
use Rattle.fac_rows.specs.inner.Bounds.{all_seen}
use Rattle.fac_rows.specs.inner.Ties.{row_by}
use Rattle.fac_rows.proofs.binding.find_in.Given as goal

abbrev pub invariant-loop-left : goal.invariant-loop-left
invariant-loop-left l =
    (l.left ≤ length l.bound) × (bound_to (row_by (option_copied l.row)) (all_seen (reverse l.bound)) ≡ bound_to (row_by (option_copied l.row)) (all_seen (reverse (take l.left l.bound))))

abbrev pub decreases-loop-left : goal.decreases-loop-left
decreases-loop-left l = l.left
