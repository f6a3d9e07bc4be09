use Rattle.std.proofs.Common.{◌≡◌, drop}
use Rattle.fac_source.specs.Toks.{is_among}
use Rattle.fac_endings.proofs.slot_faults.is_text_among.Given as goal

abbrev pub invariant-loop-other : goal.invariant-loop-other
invariant-loop-other l = is_among l.text l.texts ≡ is_among l.text (drop l.other-index l.texts)
