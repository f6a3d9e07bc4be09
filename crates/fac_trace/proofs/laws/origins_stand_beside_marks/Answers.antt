use Rattle.fac_trace.proofs.OriginsStand.{origins_stand}
use Rattle.fac_trace.proofs.laws.origins_stand_beside_marks.Goals as goal

pub returns : goal.returns
returns c = origins_stand
