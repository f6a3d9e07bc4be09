use Rattle.fac_graph.proofs.ClimbLemmas.{Descending}
use Rattle.fac_graph.proofs.slots.descend.Given as goal

abbrev pub invariant-loop-class : goal.invariant-loop-class
invariant-loop-class l = Descending l.classes l.fn.counting l.counting l.count

abbrev pub decreases-loop-class : goal.decreases-loop-class
decreases-loop-class l = goal.left-loop-class l
