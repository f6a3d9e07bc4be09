use Rattle.fac_endings.specs.inner.Lines.{AreSettled}
use Rattle.fac_endings.proofs.lines.settled.Given as goal

abbrev pub invariant-loop-class : goal.invariant-loop-class
invariant-loop-class l = AreSettled l.classes l.class l.flags.items
