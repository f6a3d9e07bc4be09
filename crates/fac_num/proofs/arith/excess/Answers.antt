use Rattle.std.proofs.Common.{◌≡◌, ◌+◌, ◌/◌, ◌%◌, ◌^◌, ℤ, pos, negsuc, FitsSigned, of_z, arith}
use Rattle.std.proofs.lemmas.Int.{ints}
use Rattle.std.specs.Int.{w64, w128}
use Rattle.fac_num.proofs.arith.excess.Goals as goal

fits_lower : (a : ℤ) → FitsSigned w128 a → (of_z w128 a / 2 ^ 64 + of_z w128 a % 2 ^ 64 / 2 ^ 63) % 2 ^ 64 ≡ 0 → FitsSigned w64 a
fits_lower (pos n) wide e = record { sfits = omega (arith, wide.sfits) }
fits_lower (negsuc n) wide e = record { sfits = omega (arith, wide.sfits) }

none_over : (a : ℤ) → FitsSigned w64 a → (of_z w128 a / 2 ^ 64 + of_z w128 a % 2 ^ 64 / 2 ^ 63) % 2 ^ 64 ≡ 0
none_over (pos n) fits = omega (arith, fits.sfits)
none_over (negsuc n) fits = omega (arith, fits.sfits)

pub returns-clause-only : goal.returns-clause-only
returns-clause-only c e = fits_lower c.args.a c.ranges.a (omega (arith, ints, c.cast_unsigned.ensures, c.lower.ensures, e))

pub returns-clause-fits : goal.returns-clause-fits
returns-clause-fits c fits = omega (arith, ints, c.cast_unsigned.ensures, c.lower.ensures, none_over c.args.a fits)
