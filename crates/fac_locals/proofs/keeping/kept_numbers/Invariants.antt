use Rattle.std.proofs.Common.{◌≡◌, ◌++◌, length, reverse}
use Rattle.fac_locals.specs.Asked.{has_cell, kept_from}
use Rattle.fac_locals.proofs.keeping.kept_numbers.Given as goal

abbrev pub invariant-loop-cell : goal.invariant-loop-cell
invariant-loop-cell l =
    record {
      count : l.number ≡ length l.rest;
      same : kept_from 0 l.cells (has_cell l.initial.left) ≡ kept_from 0 l.rest (has_cell l.left) ++ reverse l.numbers.items;
    }

abbrev pub decreases-loop-cell : goal.decreases-loop-cell
decreases-loop-cell l = length l.rest
