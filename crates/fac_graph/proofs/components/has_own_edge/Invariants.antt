use Rattle.std.proofs.Common.{◌≡◌, drop}
use Rattle.fac_graph.specs.Paths.{one_of, successors}
use Rattle.fac_graph.proofs.components.has_own_edge.Given as goal

abbrev pub invariant-loop-other : goal.invariant-loop-other
invariant-loop-other l = one_of l.node (successors l.edges l.node) ≡ one_of l.node (drop l.other-index l.other-items)
