use Rattle.std.proofs.Common.{◌≡◌, ◌≤◌, ◌+◌, ◌++◌, drop}
use Rattle.fac_classes.specs.inner.OwnKinds.{own_kinds}
use Rattle.fac_classes.proofs.own_kinds.own_kinds.Given as goal

abbrev pub invariant-loop-class : goal.invariant-loop-class
invariant-loop-class l = record {
  so_far : own_kinds 8 l.classes ≡ l.kinds.items ++ own_kinds l.next (drop l.class-index l.classes);
  low : l.next ≤ 8 + l.class-index;
}
