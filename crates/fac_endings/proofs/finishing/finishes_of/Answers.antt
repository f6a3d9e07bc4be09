use Rattle.fac_endings.proofs.FinishLemmas.{finish_taken}
use Rattle.fac_endings.proofs.finishing.finishes_of.Goals as goal

pub loop-draft-preserved : goal.loop-draft-preserved
loop-draft-preserved c =
    finish_taken c.args.table.drafts.now c.args.table.classes.now c.args.table.drafts.now c.loop-draft.draft-index c.draft-item.result c.loop-draft.finishes.items c.push.new.self.items c.in_ok-finish.finish
    c.loop-draft-test.true c.draft-item.is c.loop-draft.invariant c.in_ok-finish.ensures c.in_ok-push.ensures.items
