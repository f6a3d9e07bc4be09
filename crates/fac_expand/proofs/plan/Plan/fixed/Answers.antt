use Rattle.std.proofs.Common.{refl}
use Rattle.fac_expand.proofs.Changing.{later, fixed_made}
use Rattle.fac_expand.proofs.plan.Plan.fixed.Goals as goal

pub returns : goal.returns
returns c =
    later c.push_here.result (λ w s. fixed_made c.args.instr c.args.takes c.args.leaves c.args.draft.now c.take_all_here.new.draft c.pay.new.draft _ c.push_here.new.draft (c.in_ok-take_all_here.ensures s) c.in_ok-pay.ensures c.in_ok-push.ensures refl refl refl refl w) c.push_here.ensures
