use Rattle.std.proofs.Common.{◌≡◌, map, take}
use Rattle.fac_items.specs.FromElements.{tok}
use Rattle.fac_items.specs.inner.Behind.{name_tok}
use Rattle.fac_items.proofs.nest.names_at.Given as goal

abbrev pub invariant-loop-token : goal.invariant-loop-token
invariant-loop-token l = map name_tok l.names.items ≡ map tok (take l.token-index l.tokens)
