use Rattle.std.proofs.Common.{◌≡◌, ◌++◌, take}
use Rattle.fac_classes.proofs.slots.add_slots.Given as goal

abbrev pub invariant-loop-slot : goal.invariant-loop-slot
invariant-loop-slot l = l.slots ≡ l.initial.slots ++ take l.slot-index l.more
