use Rattle.fac_spelling.proofs.WholeLaws.{spelled_or_broken}
use Rattle.fac_spelling.proofs.laws.spelled_or_broken.Goals as goal

pub returns : goal.returns
returns g c = spelled_or_broken g.T.Spelled.format c.requires
