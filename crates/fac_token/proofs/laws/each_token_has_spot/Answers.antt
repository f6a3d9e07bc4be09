use Rattle.fac_token.proofs.SpotLemmas.{each_token}
use Rattle.fac_token.proofs.laws.each_token_has_spot.Goals as goal

pub returns : goal.returns
returns c = each_token
