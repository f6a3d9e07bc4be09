use Rattle.fac_graph.specs.inner.Components.{steps_left}
use Rattle.fac_graph.proofs.SearchSteps.{Visiting}
use Rattle.fac_graph.proofs.components.explore.Given as goal

abbrev pub decreases-loop-top : goal.decreases-loop-top
decreases-loop-top l = steps_left l.edges l.search

abbrev pub invariant-loop-top : goal.invariant-loop-top
invariant-loop-top l = Visiting l.edges l.node l.fn.search l.search
