use Rattle.fac_bytes.proofs.FitLaws.{StillFits}
use Rattle.fac_bytes.proofs.part.each_fits.Given as goal

abbrev pub invariant-loop-value : goal.invariant-loop-value
invariant-loop-value g l = StillFits g.T.Writable.format l.values l.value-index
