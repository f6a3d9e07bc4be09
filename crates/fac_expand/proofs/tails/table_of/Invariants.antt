use Rattle.std.proofs.Common.{◌≡◌, ◌≤◌, length}
use Rattle.fac_expand.specs.inner.Tails.{Tells}
use Rattle.fac_expand.proofs.tails.table_of.Given as goal

abbrev pub invariant-loop-left : goal.invariant-loop-left
invariant-loop-left l = record {
  most : l.left ≤ length l.image.code;
  size : length l.table ≡ length l.image.code;
  tells : Tells l.image l.table l.left;
}

abbrev pub decreases-loop-left : goal.decreases-loop-left
decreases-loop-left l = l.left
