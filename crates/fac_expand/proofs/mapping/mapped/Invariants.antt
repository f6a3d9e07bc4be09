use Rattle.fac_expand.proofs.Changing.{Mapping}
use Rattle.fac_expand.proofs.mapping.mapped.Given as goal

abbrev pub invariant-loop-cell : goal.invariant-loop-cell
invariant-loop-cell l = Mapping l.env l.cells l.cell-index l.real
