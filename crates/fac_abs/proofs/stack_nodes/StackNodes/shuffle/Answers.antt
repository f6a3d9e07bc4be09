use Rattle.std.proofs.lemmas.List.{drop_more}
use Rattle.fac_abs.proofs.StackLemmas.{still_enough, shuffle_step}
use Rattle.fac_abs.proofs.stack_nodes.StackNodes.shuffle.Goals as goal

pub mark_at-mark-requires-clause-takes : goal.mark_at-mark-requires-clause-takes
mark_at-mark-requires-clause-takes c = still_enough c.args.self.now c.loop-place.self c.args.stack c.args.takes _ c.loop-place.invariant.keeps c.requires c.in-Some.ensures.1

pub loop-place-preserved : goal.loop-place-preserved
loop-place-preserved c =
    shuffle_step c.args.self.now c.loop-place.self c.push.new.self c.args.stack c.loop-place.top c.in_ok-top.top c.args.takes c.mark_at-mark.result _ c.loop-place.place-index c.args.leaves.now _ c.requires c.loop-place.invariant (drop_more c.args.leaves.now c.loop-place.place-index 0 c.loop-place-test.true) c.mark_at-mark.ensures c.in_ok-top.ensures.keeps c.in_ok-top.ensures.made
