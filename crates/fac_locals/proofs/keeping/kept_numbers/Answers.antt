use Rattle.std.proofs.Common.{arith, reverse}
use Rattle.fac_locals.specs.Asked.{has_cell, kept_from}
use Rattle.fac_locals.proofs.CellLemmas.{kept_on}
use Rattle.fac_locals.proofs.keeping.kept_numbers.Goals as goal

pub loop-cell-preserved : goal.loop-cell-preserved
loop-cell-preserved c =
    record {
      count = omega (arith, c.in-Some.ensures.cases.1);
      same =
          kept_on
          (kept_from 0 c.args.cells.now (has_cell c.args.left.now))
          (reverse c.loop-cell.numbers.items)
          (reverse c.keep_cell.new.numbers.items)
          c.loop-cell.rest.now
          c.in-Some.earlier.now
          c.in-Some.cell.now
          c.loop-cell.left
          c.keep_cell.new.left
          c.loop-cell.number
          c.loop-cell.invariant.same
          c.in-Some.ensures.cases.0
          c.loop-cell.invariant.count
          c.in_ok-keep_cell.ensures.noted
          c.in_ok-keep_cell.ensures.others;
    }
