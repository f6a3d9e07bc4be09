use Rattle.std.proofs.Common.{arith}
use Rattle.fac_spelling.proofs.WriteLoops.{numbers_fit}
use Rattle.fac_spelling.proofs.fits.numbers_fit.Goals as goal

pub returns : goal.returns
returns c = numbers_fit c.args.numbers.now (λ i. omega (arith, c.type_inv.numbers i))
