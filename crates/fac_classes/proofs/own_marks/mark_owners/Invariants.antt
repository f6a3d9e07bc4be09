use Rattle.std.proofs.Common.{◌≡◌, ◌+◌}
use Rattle.fac_classes.proofs.FillLemmas.{Owns}
use Rattle.fac_classes.proofs.own_marks.mark_owners.Given as goal

abbrev pub invariant-loop-class : goal.invariant-loop-class
invariant-loop-class l = record {
  counted : l.kind ≡ 8 + l.class-index;
  owns : Owns l.classes l.width l.class-index l.owners l.initial.cells l.cells;
}
