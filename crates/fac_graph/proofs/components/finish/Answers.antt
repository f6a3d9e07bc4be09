use Rattle.std.proofs.Common.{length, arith}
use Rattle.fac_graph.proofs.NumberLists.{below_at}
use Rattle.fac_graph.proofs.components.finish.Goals as goal

pub index_mut-requires : goal.index_mut-requires
index_mut-requires c =
    let low = below_at (length c.args.standings.now.items) c.args.nodes.now c.loop-node.node-index c.requires c.loop-node-test.true in
    omega (arith, low, c.loop-node.invariant.counted)
