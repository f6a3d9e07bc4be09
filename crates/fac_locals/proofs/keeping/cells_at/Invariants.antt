use Rattle.std.proofs.Common.{◌≡◌, ◌++◌, drop}
use Rattle.fac_locals.specs.Asked.{cells_of}
use Rattle.fac_locals.proofs.keeping.cells_at.Given as goal

abbrev pub invariant-loop-number : goal.invariant-loop-number
invariant-loop-number l = cells_of l.cells l.captures ≡ l.kept.items ++ cells_of l.cells (drop l.number-index l.number-items)
