use Rattle.fac_check.proofs.MarksBelowStay.{marks_below_stay}
use Rattle.fac_check.proofs.laws.marks_below_stay.Goals as goal

pub returns : goal.returns
returns c = marks_below_stay
