use Rattle.std.proofs.Common.{refl}
use Rattle.fac_expand.proofs.Changing.{unknown_made}
use Rattle.fac_expand.proofs.plan.Plan.unknown.Goals as goal

pub returns : goal.returns
returns c =
    λ s. unknown_made c.args.instr c.args.draft.now c.forget_all.new.draft c.pay.new.draft _ (c.in_ok-forget_all.ensures s) c.in_ok-pay.ensures c.in_ok-push.ensures refl refl refl refl
