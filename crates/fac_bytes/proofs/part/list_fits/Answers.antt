use Rattle.std.proofs.Common.{List, length, subst, arith}
use Rattle.fac_spelling.specs.Formats.{each}
use Rattle.fac_bytes.proofs.FitLaws.{counted_from}
use Rattle.fac_bytes.proofs.part.list_fits.Goals as goal

pub returns : goal.returns
returns g c = counted_from g.T.Writable.format c.args.values.now (omega arith) (subst (λ (xs : List _). (each (length xs) g.T.Writable.format).Fits xs) c.as_slice.ensures c.each_fits.ensures)
