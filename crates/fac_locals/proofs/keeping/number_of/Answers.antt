use Rattle.std.proofs.Common.{arith, sym}
use Rattle.fac_locals.proofs.CellLemmas.{number_found, number_before}
use Rattle.fac_locals.proofs.keeping.number_of.Goals as goal

pub returns-then-is_same : goal.returns-then-is_same
returns-then-is_same c =
    number_found c.args.cells.now c.loop-last.rest.now c.in-Some.earlier.now c.in-Some.last.now c.args.cell c.loop-last.number c.loop-last.invariant.same c.in-Some.ensures.cases.0 c.loop-last.invariant.count (sym c.if-is_same.ensures)

pub loop-last-preserved : goal.loop-last-preserved
loop-last-preserved c =
    record {
      count = omega (arith, c.in-Some.ensures.cases.1);
      same = number_before c.args.cells.now c.loop-last.rest.now c.in-Some.earlier.now c.in-Some.last.now c.args.cell c.loop-last.invariant.same c.in-Some.ensures.cases.0 (sym c.if-is_same.ensures);
    }
