use Rattle.fac_expand.proofs.Changing.{Pushing}
use Rattle.fac_expand.proofs.plan.Plan.push_here.Given as goal

abbrev pub invariant-loop-pushed : goal.invariant-loop-pushed
invariant-loop-pushed l = Pushing l.count l.pushed l.initial.draft l.draft
