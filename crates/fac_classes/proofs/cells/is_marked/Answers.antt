use Rattle.std.proofs.Common.{refl}
use Rattle.fac_classes.specs.inner.Cells.{cell}
use Rattle.fac_classes.proofs.cells.is_marked.Goals as goal

pub returns : goal.returns
unfolding cell
returns c = refl
