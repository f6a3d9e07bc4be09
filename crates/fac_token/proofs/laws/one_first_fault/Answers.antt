use Rattle.fac_token.proofs.OneReading.{one_fault}
use Rattle.fac_token.proofs.laws.one_first_fault.Goals as goal

pub returns : goal.returns
returns c = one_fault
