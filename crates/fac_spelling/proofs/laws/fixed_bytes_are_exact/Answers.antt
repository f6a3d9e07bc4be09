use Rattle.fac_spelling.proofs.ByteLaws.{fixed_exact}
use Rattle.fac_spelling.proofs.laws.fixed_bytes_are_exact.Goals as goal

pub returns : goal.returns
returns c = fixed_exact
