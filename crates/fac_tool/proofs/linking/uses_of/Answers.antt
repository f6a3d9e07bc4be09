use Rattle.fac_tool.proofs.DirectUses.{one_use_more, all_uses}
use Rattle.fac_tool.proofs.linking.uses_of.Goals as goal

pub loop-word-preserved : goal.loop-word-preserved
loop-word-preserved c =
    let at = c.loop-word in
    one_use_more c.as_slice-word-items.result.now at.word-index at.uses c.push.new.self c.word-item.result c.use_of.result c.loop-word-test.true c.word-item.is c.use_of.ensures c.in_ok-push.ensures.ok at.invariant

pub returns : goal.returns
returns c =
    let at = c.loop-word in
    all_uses c.args.program.now c.as_slice-word-items.result.now at.word-index at.uses c.as_slice-word-items.ensures c.loop-word-test.false at.invariant
