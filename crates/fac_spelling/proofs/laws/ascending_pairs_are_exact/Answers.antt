use Rattle.fac_spelling.proofs.ListLaws.{ascending_by_exact}
use Rattle.fac_spelling.proofs.laws.ascending_pairs_are_exact.Goals as goal

pub returns : goal.returns
returns g c = ascending_by_exact g.T.Spelled.format c.requires
