use Rattle.std.proofs.Common.{◌≡◌, map, take}
use Rattle.fac_classes.proofs.order.numbers_of.Given as goal

abbrev pub invariant-loop-key : goal.invariant-loop-key
invariant-loop-key l = l.numbers.items ≡ map (λ key. key.2) (take l.key-index l.keys)
