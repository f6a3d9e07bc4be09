use Rattle.fac_classes.proofs.FillLemmas.{LaysBelow}
use Rattle.fac_classes.proofs.built_ins.lay_built_in.Given as goal

abbrev pub invariant-loop-kind : goal.invariant-loop-kind
invariant-loop-kind l = LaysBelow l.classes l.width l.class l.kind l.initial.cells l.cells
