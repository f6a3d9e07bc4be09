use Rattle.fac_classes.proofs.CellLemmas.{JoinsBelow}
use Rattle.fac_classes.proofs.cells.join.Given as goal

abbrev pub invariant-loop-kind : goal.invariant-loop-kind
invariant-loop-kind l = JoinsBelow l.width l.to l.from l.kind l.initial.cells l.cells
