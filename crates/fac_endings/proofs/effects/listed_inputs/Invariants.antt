use Rattle.std.proofs.Common.{◌≡◌, take, map}
use Rattle.fac_endings.specs.inner.PlainEffects.{plain_input}
use Rattle.fac_endings.proofs.effects.listed_inputs.Given as goal

abbrev pub invariant-loop-name : goal.invariant-loop-name
invariant-loop-name l = l.inputs.items ≡ map plain_input (take l.name-index l.names)
