use Rattle.std.proofs.Common.{◌≡◌, ◌++◌}
use Rattle.fac_locals.specs.Cells.{hole_cells}
use Rattle.fac_locals.proofs.keeping.add_holes.Given as goal

abbrev pub invariant-loop-number : goal.invariant-loop-number
invariant-loop-number l = l.cells.items ≡ l.initial.cells.items ++ hole_cells l.number
