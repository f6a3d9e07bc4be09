use Rattle.fac_endings.specs.inner.Chains.{slots_of}
use Rattle.fac_endings.proofs.FaultLemmas.{slot_more}
use Rattle.fac_endings.proofs.slot_faults.refuse_slots.Goals as goal

pub loop-number-preserved : goal.loop-number-preserved
loop-number-preserved c =
    slot_more (slots_of c.args.classes.now c.args.bearers.now) c.args.slots.now c.loop-number.number c.index-slots-number.result c.args.first.now c.loop-number.first c.refuse_slot.new.first
    c.loop-number-test.true c.index-slots-number.is c.loop-number.invariant c.in_ok-refuse_slot.ensures
