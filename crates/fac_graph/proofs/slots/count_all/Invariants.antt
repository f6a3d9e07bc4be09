use Rattle.fac_graph.specs.inner.Climbing.{IsIdle}
use Rattle.fac_graph.proofs.ClimbLemmas.{MetBelow}
use Rattle.fac_graph.proofs.slots.count_all.Given as goal

abbrev pub invariant-loop-class : goal.invariant-loop-class
invariant-loop-class l = record { idle : IsIdle l.classes l.counting; met : MetBelow l.class l.counting.standings.items }
