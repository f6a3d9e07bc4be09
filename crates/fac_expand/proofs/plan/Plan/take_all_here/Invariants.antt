use Rattle.std.proofs.Common.{◌≡◌, true}
use Rattle.fac_expand.proofs.Changing.{Taking}
use Rattle.fac_expand.proofs.plan.Plan.take_all_here.Given as goal

abbrev pub invariant-loop-taken : goal.invariant-loop-taken
invariant-loop-taken l = Taking l.self.strict l.count l.taken l.initial.draft l.draft
