use Rattle.fac_graph.proofs.ClimbLemmas.{Climbing, unmet_count}
use Rattle.fac_graph.proofs.slots.climb.Given as goal

abbrev pub invariant-loop-at : goal.invariant-loop-at
invariant-loop-at l = Climbing l.classes l.class l.fn.counting l.counting l.at

abbrev pub decreases-loop-at : goal.decreases-loop-at
decreases-loop-at l = unmet_count l.counting.standings.items
