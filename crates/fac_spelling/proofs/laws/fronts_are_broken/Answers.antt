use Rattle.std.proofs.Common.{sym}
use Rattle.fac_spelling.proofs.WholeLaws.{front_broken}
use Rattle.fac_spelling.proofs.laws.fronts_are_broken.Goals as goal

pub returns : goal.returns
returns g c = λ x front b bs h. front_broken g.T.Spelled.format c.requires x front b bs h.fits (sym h.is)
