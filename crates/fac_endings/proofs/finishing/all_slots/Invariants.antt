use Rattle.fac_endings.specs.inner.Finishes.{AreSlotsSoFar}
use Rattle.fac_endings.proofs.finishing.all_slots.Given as goal

abbrev pub invariant-loop-class : goal.invariant-loop-class
invariant-loop-class l = AreSlotsSoFar l.classes l.class l.table
