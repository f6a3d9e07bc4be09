use Rattle.fac_classes.proofs.CellLemmas.{cell_set}
use Rattle.fac_classes.proofs.cells.mark.Goals as goal

pub returns : goal.returns
returns c = cell_set c.args.width c.args.cells.now c.args.class c.args.kind c.requires.row c.requires.kind
