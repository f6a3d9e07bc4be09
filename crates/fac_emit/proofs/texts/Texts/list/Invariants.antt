use Rattle.std.proofs.Common.{◌≡◌, map, take, string_bytes}
use Rattle.fac_emit.proofs.texts.Texts.list.Given as goal

abbrev pub invariant-loop-text : goal.invariant-loop-text
invariant-loop-text l = l.texts ≡ map string_bytes (take l.text-index l.text-items)
