use Rattle.std.proofs.Common.{◌≡◌, take}
use Rattle.fac_graph.specs.Laws.{class_edges}
use Rattle.fac_endings.proofs.graph.edges_of.Given as goal

abbrev pub invariant-loop-class : goal.invariant-loop-class
invariant-loop-class l = l.edges ≡ class_edges (take l.class-index l.classes)
