use Rattle.fac_spelling.proofs.ListLaws.{counted_exact}
use Rattle.fac_spelling.proofs.laws.lists_are_exact.Goals as goal

pub returns : goal.returns
returns g c = counted_exact g.T.Spelled.format c.requires
