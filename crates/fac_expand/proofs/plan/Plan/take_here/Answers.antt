use Rattle.std.proofs.Common.{refl}
use Rattle.fac_expand.proofs.Changing.{take_one}
use Rattle.fac_expand.proofs.plan.Plan.take_here.Goals as goal

pub returns-in-Here : goal.returns-in-Here
returns-in-Here c = λ strict. take_one c.args.draft.now _ c.in-Here.ensures.top c.in-Here.ensures.behind (record { code = refl; owed = refl; rows = refl; count = refl })
