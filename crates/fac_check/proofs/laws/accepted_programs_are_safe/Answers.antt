use Rattle.fac_check.proofs.Promised.{accepted_are_safe}
use Rattle.fac_check.proofs.laws.accepted_programs_are_safe.Goals as goal

pub returns : goal.returns
returns c = accepted_are_safe
