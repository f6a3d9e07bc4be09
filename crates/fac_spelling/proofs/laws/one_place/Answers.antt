use Rattle.fac_spelling.proofs.WholeLaws.{one_place}
use Rattle.fac_spelling.proofs.laws.one_place.Goals as goal

pub returns : goal.returns
returns g c = one_place g.T.Spelled.format
