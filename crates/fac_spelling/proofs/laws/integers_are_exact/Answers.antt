use Rattle.fac_spelling.proofs.IntegerLaws.{integer_exact}
use Rattle.fac_spelling.proofs.laws.integers_are_exact.Goals as goal

pub returns : goal.returns
returns c = integer_exact
