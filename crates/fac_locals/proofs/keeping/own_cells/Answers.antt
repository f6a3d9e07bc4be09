use Rattle.std.proofs.Common.{◌∙◌, ◌++◌, List, ap}
use Rattle.fac_locals.specs.declared.cell.Cell.{Cell}
use Rattle.fac_locals.specs.Cells.{hole_cells}
use Rattle.fac_locals.proofs.keeping.own_cells.Goals as goal

pub returns : goal.returns
returns c = c.in_ok-list.ensures.ok ∙ c.in_ok-add_holes.ensures ∙ ap (λ (cs : List Cell). cs ++ hole_cells c.args.holes) c.in_ok-own.ensures
