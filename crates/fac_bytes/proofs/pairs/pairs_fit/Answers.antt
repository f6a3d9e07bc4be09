use Rattle.std.proofs.Common.{ℕ, List, length, subst, arith}
use Rattle.fac_spelling.specs.Formats.{each}
use Rattle.fac_bytes.specs.Ascending.{pair_format}
use Rattle.fac_bytes.proofs.FitLaws.{ascending_by_fits}
use Rattle.fac_bytes.proofs.pairs.pairs_fit.Goals as goal

pub returns : goal.returns
returns c = ascending_by_fits c.args.pairs.now c.requires (omega arith) (subst (λ (ps : List (ℕ × ℕ)). (each (length ps) pair_format).Fits ps) c.as_slice.ensures c.each_fits.ensures)
