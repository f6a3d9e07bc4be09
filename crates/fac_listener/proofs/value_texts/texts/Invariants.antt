use Rattle.std.proofs.Common.{take}
use Rattle.fac_listener.specs.MachineTexts.{AreTextsOf}
use Rattle.fac_listener.proofs.value_texts.texts.Given as goal

abbrev pub invariant-loop-value : goal.invariant-loop-value
invariant-loop-value l = AreTextsOf l.image l.store (take l.value-index l.values) l.texts
