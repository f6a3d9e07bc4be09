use Rattle.fac_token.proofs.SpotLemmas.{one_list}
use Rattle.fac_token.proofs.laws.one_list_of_spots.Goals as goal

pub returns : goal.returns
returns c = one_list
