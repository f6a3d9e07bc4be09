use Rattle.fac_expand.specs.inner.Bodies.{HasNoFlag}
use Rattle.fac_expand.proofs.bodies.no_flags.Given as goal

abbrev pub invariant-loop : goal.invariant-loop
invariant-loop l = HasNoFlag l.flags
