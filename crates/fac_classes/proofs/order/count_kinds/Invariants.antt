use Rattle.std.proofs.Common.{◌≡◌, ◌≤◌}
use Rattle.fac_classes.specs.inner.Ordering.{cell_count}
use Rattle.fac_classes.proofs.order.count_kinds.Given as goal

abbrev pub invariant-loop-kind : goal.invariant-loop-kind
invariant-loop-kind l = record {
  so_far : l.count ≡ cell_count l.width l.cells l.class l.kind;
  low : l.count ≤ l.kind;
}
