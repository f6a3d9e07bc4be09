use Rattle.std.proofs.Common.{◌≡◌, drop}
use Rattle.fac_source.specs.Toks.{is_among, texts_of}
use Rattle.fac_endings.proofs.slot_faults.is_tok_among.Given as goal

abbrev pub invariant-loop-other : goal.invariant-loop-other
invariant-loop-other l = is_among l.text (texts_of l.toks) ≡ is_among l.text (texts_of (drop l.other-index l.toks))
