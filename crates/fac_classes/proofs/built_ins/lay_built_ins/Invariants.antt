use Rattle.fac_classes.specs.inner.Filling.{LaysBuiltIns}
use Rattle.fac_classes.proofs.built_ins.lay_built_ins.Given as goal

abbrev pub invariant-loop-class : goal.invariant-loop-class
invariant-loop-class l = LaysBuiltIns l.classes l.width l.class l.initial.cells l.cells
