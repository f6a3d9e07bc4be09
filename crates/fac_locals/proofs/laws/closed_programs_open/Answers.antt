use Rattle.fac_locals.proofs.OpeningLaws.{programs_open}
use Rattle.fac_locals.proofs.laws.closed_programs_open.Goals as goal

pub returns : goal.returns
returns c = programs_open
