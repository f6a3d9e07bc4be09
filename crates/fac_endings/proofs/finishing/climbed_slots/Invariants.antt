use Rattle.std.proofs.Common.{◌≡◌, ◌++◌, length}
use Rattle.fac_endings.specs.inner.Finishes.{slots_last}
use Rattle.fac_endings.proofs.finishing.climbed_slots.Given as goal

abbrev pub decreases-loop-bearer : goal.decreases-loop-bearer
decreases-loop-bearer l = length l.line.items

abbrev pub invariant-loop-bearer : goal.invariant-loop-bearer
invariant-loop-bearer l = slots_last l.classes l.initial.line.items ≡ l.slots ++ slots_last l.classes l.line.items
