use Rattle.fac_spelling.proofs.WholeLaws.{spelled_once}
use Rattle.fac_spelling.proofs.laws.one_value.Goals as goal

pub returns : goal.returns
returns g c = spelled_once g.T.Spelled.format c.requires
