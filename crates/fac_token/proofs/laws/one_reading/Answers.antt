use Rattle.fac_token.proofs.OneReading.{one_reading}
use Rattle.fac_token.proofs.laws.one_reading.Goals as goal

pub returns : goal.returns
returns c = one_reading
