use Rattle.std.proofs.Common.{length}
use Rattle.fac_graph.proofs.ComponentLemmas.{JoinsPart}
use Rattle.fac_graph.proofs.components.join.Given as goal

abbrev pub decreases-loop-components : goal.decreases-loop-components
decreases-loop-components l = length l.components.items

abbrev pub invariant-loop-components : goal.invariant-loop-components
invariant-loop-components l = JoinsPart l.place l.initial.components.items l.components.items
