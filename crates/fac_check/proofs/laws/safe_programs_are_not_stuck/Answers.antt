use Rattle.fac_check.proofs.Promised.{safe_are_not_stuck}
use Rattle.fac_check.proofs.laws.safe_programs_are_not_stuck.Goals as goal

pub returns : goal.returns
returns c = safe_are_not_stuck
