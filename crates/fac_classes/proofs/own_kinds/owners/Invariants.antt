use Rattle.std.proofs.Common.{◌≡◌, ◌++◌, drop}
use Rattle.fac_classes.specs.inner.OwnKinds.{owners_from}
use Rattle.fac_classes.proofs.own_kinds.owners.Given as goal

abbrev pub invariant-loop-class : goal.invariant-loop-class
invariant-loop-class l = record {
  so_far : owners_from 0 l.classes ≡ l.owners.items ++ owners_from l.number (drop l.class-index l.classes);
  counted : l.number ≡ l.class-index;
}
