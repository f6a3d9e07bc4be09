use Rattle.std.proofs.Common.{ℕ, List, length, subst, arith}
use Rattle.fac_spelling.specs.Formats.{each}
use Rattle.fac_spelling.specs.Numbers.{number32}
use Rattle.fac_bytes.proofs.FitLaws.{ascending_fits}
use Rattle.fac_bytes.proofs.lists.ListU32Writable.fits.Goals as goal

pub returns : goal.returns
returns c = ascending_fits c.args.self.now c.requires (omega arith) (subst (λ (ns : List ℕ). (each (length ns) number32).Fits ns) c.as_slice.ensures c.numbers_fit.ensures)
