use Rattle.std.proofs.Common.{◌≡◌, take, map}
use Rattle.fac_endings.proofs.effects.texts.Given as goal

abbrev pub invariant-loop-name : goal.invariant-loop-name
invariant-loop-name l = l.texts ≡ map (λ name. name.now) (take l.name-index l.names)
