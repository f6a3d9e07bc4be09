use Rattle.fac_spelling.proofs.FreeLaws.{fresh_exact}
use Rattle.fac_spelling.proofs.laws.fresh_numbers_are_exact.Goals as goal

pub returns : goal.returns
returns c = fresh_exact
