use Rattle.std.proofs.Common.{◌≡◌, drop, fold, take}
use Rattle.fac_source.specs.Refusals.{sooner}
use Rattle.fac_endings.specs.LastRefusals.{slot_faults}
use Rattle.fac_endings.specs.inner.Chains.{slots_of}
use Rattle.fac_endings.proofs.FaultLemmas.{and_text}
use Rattle.fac_endings.proofs.slot_faults.refuse_slots.Given as goal

abbrev pub invariant-loop-number : goal.invariant-loop-number
invariant-loop-number l =
    fold sooner l.initial.first (slot_faults (slots_of l.classes l.bearers) l.slots) ≡ fold sooner l.first (slot_faults (fold and_text (slots_of l.classes l.bearers) (take l.number l.slots)) (drop l.number l.slots))
