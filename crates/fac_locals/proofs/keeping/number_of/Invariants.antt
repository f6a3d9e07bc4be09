use Rattle.std.proofs.Common.{◌≡◌, length}
use Rattle.fac_locals.specs.Cells.{cell_number}
use Rattle.fac_locals.proofs.keeping.number_of.Given as goal

abbrev pub invariant-loop-last : goal.invariant-loop-last
invariant-loop-last l = record { count : l.number ≡ length l.rest; same : cell_number l.cells l.cell ≡ cell_number l.rest l.cell }

abbrev pub decreases-loop-last : goal.decreases-loop-last
decreases-loop-last l = length l.rest
