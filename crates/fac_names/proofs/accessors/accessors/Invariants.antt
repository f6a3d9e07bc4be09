use Rattle.std.proofs.Common.{◌≡◌, drop, fold}
use Rattle.fac_names.specs.Forms.{with_slot}
use Rattle.fac_names.specs.inner.Named.{toks}
use Rattle.fac_names.specs.inner.State.{reading_of}
use Rattle.fac_names.proofs.accessors.accessors.Given as goal

abbrev pub invariant-loop-slot : goal.invariant-loop-slot
invariant-loop-slot l = fold with_slot (reading_of l.initial.so_far) (toks l.slots) ≡ fold with_slot (reading_of l.so_far) (toks (drop l.slot-index l.slots))
