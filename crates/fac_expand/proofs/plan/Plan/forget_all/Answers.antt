use Rattle.std.proofs.Common.{ℕ, subst}
use Rattle.fac_expand.proofs.Changing.{later, all_taken}
use Rattle.fac_expand.specs.inner.Changes.{TakesTop}
use Rattle.fac_expand.proofs.plan.Plan.forget_all.Goals as goal

pub returns : goal.returns
returns c =
    later c.take_all_here.result (λ f s. all_taken c.args.draft.now c.take_all_here.new.draft (subst (λ (n : ℕ). TakesTop n c.args.draft.now c.take_all_here.new.draft) c.len-count.ensures (f s))) c.take_all_here.ensures
