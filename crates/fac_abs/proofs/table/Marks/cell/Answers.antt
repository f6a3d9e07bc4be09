use Rattle.std.proofs.Common.{subst}
use Rattle.std.specs.Map.{keys_of}
use Rattle.fac_abs.specs.SeenMarks.{MarksSeen}
use Rattle.fac_abs.specs.MarkPromises.{HasCellWhere}
use Rattle.fac_abs.proofs.SeenLemmas.{frame_in, cells_low, cell_where}
use Rattle.fac_abs.proofs.table.Marks.cell.Goals as goal

pub cell-requires : goal.cell-requires
cell-requires c = frame_in c.self.inside.templates c.self.inside.frames (keys_of c.self.inside.nodes) c.self.inside.stack_nodes c.args.self.now c.self.view_is c.args.frame c.requires

pub returns : goal.returns
returns c =
    let ns = keys_of c.self.inside.nodes in
    let ss = c.self.inside.stack_nodes in
    let low = cells_low c.self.inside.templates c.self.inside.frames ns ss c.args.self.now c.self.view_is c.args.frame c.requires in
    subst (λ (M : MarksSeen). HasCellWhere M c.args.frame c.args.cell c.cell.result) c.self.view_is (cell_where c.self.inside.templates c.self.inside.frames ns ss c.args.frame c.args.cell c.cell.result low c.cell.ensures)
