use Rattle.fac_trees.specs.TextTrees.{texts_in}
use Rattle.fac_tool.proofs.ReadingLemmas.{none_wait, next_wait, wait_ends, last_wait}
use Rattle.fac_tool.proofs.reading.take_parts.Goals as goal

pub returns-in-Err : goal.returns-in-Err
returns-in-Err g c =
    let wait = c.parts.invariant in
    wait_ends (texts_in c.args.parts) (texts_in c.parts.left) c.parts.trees c.parts.before c.parts.count c.args.resolver.now c.parts.resolver c.take_and_read.new.resolver c.in-Err.ended wait (c.in-Err.ensures wait.texts wait.are)

pub returns : goal.returns
returns g c =
    let wait = c.parts.invariant in
    last_wait (texts_in c.args.parts) c.parts.left c.parts.trees c.parts.before c.parts.count c.args.resolver.now c.parts.resolver c.take_trees.new.resolver c.take_trees.result c.in_default.ensures.0 wait (c.take_trees.ensures wait.texts wait.are)

pub parts-preserved : goal.parts-preserved
parts-preserved g c =
    let wait = c.parts.invariant in
    let both = c.in-Ok.ensures wait.texts wait.are in
    next_wait (texts_in c.args.parts) c.parts.left c.take.new.self c.in-Some.part c.parts.trees c.in-Ok.next c.parts.before c.parts.count c.in-Ok.sum _ c.args.resolver.now c.parts.resolver c.take_and_read.new.resolver c.in-Some.ensures c.len-more.ensures wait both.0 both.1
