use Rattle.fac_bytes.specs.Ascending.{pair_format}
use Rattle.fac_bytes.proofs.FitLaws.{StillFits}
use Rattle.fac_bytes.proofs.pairs.each_fits.Given as goal

abbrev pub invariant-loop-pair : goal.invariant-loop-pair
invariant-loop-pair l = StillFits pair_format l.pairs l.pair-index
