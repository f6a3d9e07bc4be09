use Rattle.std.proofs.Common.{◌≡◌, drop}
use Rattle.fac_source.specs.Toks.{is_among}
use Rattle.fac_endings.specs.inner.Chains.{slots_of}
use Rattle.fac_endings.proofs.slot_faults.is_slot_of.Given as goal

abbrev pub invariant-loop-bearer : goal.invariant-loop-bearer
invariant-loop-bearer l = is_among l.text (slots_of l.classes l.bearers) ≡ is_among l.text (slots_of l.classes (drop l.bearer-index l.bearers))
