use Rattle.fac_expand.specs.inner.Bodies.{AreMethodsFlagged}
use Rattle.fac_expand.proofs.bodies.flag_methods.Given as goal

abbrev pub invariant-loop-index : goal.invariant-loop-index
invariant-loop-index l = AreMethodsFlagged l.initial.flags l.methods l.flags
