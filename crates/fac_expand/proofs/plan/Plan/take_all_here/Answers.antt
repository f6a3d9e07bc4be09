use Rattle.fac_expand.proofs.Changing.{taking_begins, taking_goes_on, taking_ends}
use Rattle.fac_expand.proofs.plan.Plan.take_all_here.Goals as goal

pub loop-taken-init : goal.loop-taken-init
loop-taken-init c =
    taking_begins c.args.self.now.strict c.args.count c.args.draft.now

pub loop-taken-preserved : goal.loop-taken-preserved
loop-taken-preserved c =
    taking_goes_on c.args.self.now.strict c.args.count c.loop-taken.taken c.args.draft.now c.loop-taken.draft c.take_here.new.draft c.loop-taken.invariant c.in_ok-take_here.ensures

pub returns : goal.returns
returns c =
    taking_ends c.args.self.now.strict c.args.count c.loop-taken.taken c.args.draft.now c.loop-taken.draft c.loop-taken.invariant c.loop-taken-test.false c.loop-taken.auto.taken-end
