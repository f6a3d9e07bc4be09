use Rattle.std.proofs.Common.{◌≡◌, drop, length}
use Rattle.fac_graph.specs.inner.Components.{all_done}
use Rattle.fac_graph.proofs.components.finish.Given as goal

abbrev pub invariant-loop-node : goal.invariant-loop-node
invariant-loop-node l =
    record {
      counted : length l.standings.items ≡ length l.initial.standings.items;
      so_far : all_done l.back l.nodes l.initial.standings.items ≡ all_done l.back (drop l.node-index l.nodes) l.standings.items;
    }
