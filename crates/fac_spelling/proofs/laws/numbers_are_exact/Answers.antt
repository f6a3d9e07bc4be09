use Rattle.fac_spelling.proofs.NumberLaws.{number_exact}
use Rattle.fac_spelling.proofs.laws.numbers_are_exact.Goals as goal

pub returns : goal.returns
returns c = number_exact
