use Rattle.fac_graph.specs.inner.Components.{IsIdle}
use Rattle.fac_graph.proofs.SearchSteps.{SeenBelow}
use Rattle.fac_graph.proofs.components.visit_all.Given as goal

abbrev pub invariant-loop-node : goal.invariant-loop-node
invariant-loop-node l = record { idle : IsIdle l.edges l.search; seen : SeenBelow l.node l.search.standings.items }
