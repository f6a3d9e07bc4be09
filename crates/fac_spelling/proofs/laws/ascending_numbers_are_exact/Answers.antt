use Rattle.fac_spelling.proofs.ListLaws.{ascending_exact}
use Rattle.fac_spelling.proofs.laws.ascending_numbers_are_exact.Goals as goal

pub returns : goal.returns
returns c = ascending_exact
