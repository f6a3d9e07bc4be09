use Rattle.std.proofs.Common.{◌≡◌, ◌≤◌, length}
use Rattle.fac_locals.specs.inner.Numbering.{arrays_closed, stage_of}
use Rattle.fac_locals.proofs.closing.close_arrays.Given as goal

abbrev pub invariant-loop-left : goal.invariant-loop-left
invariant-loop-left l = record {
  onward : arrays_closed l.counts l.initial.left (stage_of l.initial.arrays.items l.initial.closing) ≡ arrays_closed l.counts l.left (stage_of l.arrays.items l.closing);
  within : l.left ≤ length l.arrays.items;
  as_many : length l.closing.starts.items ≡ length l.arrays.items;
}

abbrev pub decreases-loop-left : goal.decreases-loop-left
decreases-loop-left l = l.left
