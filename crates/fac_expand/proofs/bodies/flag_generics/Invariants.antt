use Rattle.fac_expand.specs.inner.Bodies.{OnlyBegin}
use Rattle.fac_expand.proofs.bodies.flag_generics.Given as goal

abbrev pub invariant-loop-index : goal.invariant-loop-index
invariant-loop-index l = OnlyBegin l.image l.initial.flags → OnlyBegin l.image l.flags
