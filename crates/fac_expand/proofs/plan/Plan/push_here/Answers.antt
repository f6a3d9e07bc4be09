use Rattle.std.proofs.Common.{refl}
use Rattle.fac_expand.proofs.Changing.{pushing_begins, pushing_goes_on, pushing_ends}
use Rattle.fac_expand.proofs.plan.Plan.push_here.Goals as goal

pub loop-pushed-init : goal.loop-pushed-init
loop-pushed-init c =
    pushing_begins c.args.count c.args.draft.now

pub loop-pushed-preserved : goal.loop-pushed-preserved
loop-pushed-preserved c =
    pushing_goes_on c.args.count c.loop-pushed.pushed c.args.draft.now c.loop-pushed.draft _ c.loop-pushed.invariant c.in_ok-push.ensures (record { code = refl; owed = refl; rows = refl; count = refl })

pub returns : goal.returns
returns c =
    pushing_ends c.args.count c.loop-pushed.pushed c.args.draft.now c.loop-pushed.draft c.loop-pushed.invariant c.loop-pushed-test.false c.loop-pushed.auto.pushed-end
