use Rattle.fac_endings.specs.inner.Lines.{AreLines}
use Rattle.fac_endings.proofs.lines.lines_of.Given as goal

abbrev pub invariant-loop-class : goal.invariant-loop-class
invariant-loop-class l = AreLines l.classes l.class l.lines.items
