use Rattle.std.proofs.Common.{length, ap, arith}
use Rattle.fac_tool.proofs.ReadingLemmas.{trees_more, tree_there, trees_end, trees_done}
use Rattle.fac_tool.proofs.reading.take_trees.Goals as goal

pub take_tree-requires : goal.take_tree-requires
take_tree-requires c =
    let come = c.requires.come in
    tree_there come.0 c.trees.left c.take.new.self c.in-Some.tree c.args.before c.args.count c.trees.file c.trees.sum c.args.resolver.now c.trees.resolver c.in-Some.ensures (c.trees.invariant.taken come.0 come.1)

pub returns-in-Err : goal.returns-in-Err
returns-in-Err c = λ part are.
    trees_end c.every_text_is_a_source.ensures part c.trees.left c.take.new.self c.in-Some.tree c.args.before c.args.count c.trees.file c.trees.sum c.args.resolver.now c.trees.resolver c.take_tree.new.resolver c.in-Err.ended c.in-Some.ensures (c.trees.invariant.taken part are) c.in-Err.ensures

pub trees-preserved : goal.trees-preserved
trees-preserved c =
    record {
      taken = λ part are. trees_more part c.trees.left c.take.new.self c.in-Some.tree c.args.before c.args.count c.trees.file c.trees.sum c.in-Ok.more c.args.resolver.now c.trees.resolver c.take_tree.new.resolver c.in-Some.ensures (c.trees.invariant.taken part are) c.in-Ok.ensures;
      all = omega (arith, ap length c.in-Some.ensures, c.trees.invariant.all);
    }

pub returns : goal.returns
returns c = λ part are.
    trees_done part c.trees.left c.args.before c.args.count c.trees.file c.trees.sum c.args.resolver.now c.trees.resolver c.in_default.ensures.0 (c.trees.invariant.taken part are)
