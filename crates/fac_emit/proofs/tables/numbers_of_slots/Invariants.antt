use Rattle.std.proofs.Common.{◌≡◌, map, take}
use Rattle.fac_emit.specs.ProgramTexts.{text_number}
use Rattle.fac_emit.proofs.tables.numbers_of_slots.Given as goal

abbrev pub invariant-loop-slot : goal.invariant-loop-slot
invariant-loop-slot l = l.numbers ≡ map (text_number l.emission) (take l.slot-index l.slots)
