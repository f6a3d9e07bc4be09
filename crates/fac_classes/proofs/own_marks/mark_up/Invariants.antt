use Rattle.fac_classes.proofs.FillLemmas.{Climbs}
use Rattle.fac_classes.proofs.own_marks.mark_up.Given as goal

abbrev pub invariant-up : goal.invariant-up
invariant-up l = Climbs l.classes l.width l.class l.kind l.left l.at l.initial.cells l.cells

abbrev pub decreases-up : goal.decreases-up
decreases-up l = l.left
