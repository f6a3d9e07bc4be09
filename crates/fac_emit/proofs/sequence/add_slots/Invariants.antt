use Rattle.std.proofs.Common.{◌≡◌, drop}
use Rattle.fac_emit.specs.ProgramTexts.{with_texts}
use Rattle.fac_emit.proofs.sequence.add_slots.Given as goal

abbrev pub invariant-loop-slot : goal.invariant-loop-slot
invariant-loop-slot l = with_texts l.initial.texts l.slots ≡ with_texts l.texts (drop l.slot-index l.slots)
