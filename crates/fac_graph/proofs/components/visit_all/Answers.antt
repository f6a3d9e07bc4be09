use Rattle.std.proofs.Common.{arith}
use Rattle.fac_graph.proofs.SearchSteps.{all_visited}
use Rattle.fac_graph.proofs.components.visit_all.Goals as goal

pub returns : goal.returns
returns c = all_visited c.args.edges.now c.loop-node.search c.loop-node.node c.loop-node.invariant.idle c.loop-node.invariant.seen (omega (arith, c.loop-node-test.false, c.len-node-end.ensures))
