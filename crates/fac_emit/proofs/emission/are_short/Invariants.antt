use Rattle.std.proofs.Common.{◌≡◌, drop}
use Rattle.std.specs.List.{list_all}
use Rattle.fac_bytes.specs.Spellable.{is_short}
use Rattle.fac_emit.proofs.emission.are_short.Given as goal

abbrev pub invariant-loop-text : goal.invariant-loop-text
invariant-loop-text l = list_all is_short l.texts ≡ list_all is_short (drop l.text-index l.texts)
