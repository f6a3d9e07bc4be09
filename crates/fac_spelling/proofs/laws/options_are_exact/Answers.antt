use Rattle.fac_spelling.proofs.ListLaws.{optional_exact}
use Rattle.fac_spelling.proofs.laws.options_are_exact.Goals as goal

pub returns : goal.returns
returns g c = optional_exact g.T.Spelled.format c.requires
