use Rattle.std.proofs.Common.{◌≡◌, map}
use Rattle.std.specs.List.{range_with_len}
use Rattle.fac_classes.specs.inner.Ordering.{key_of, key_seen}
use Rattle.fac_classes.proofs.order.keys_of.Given as goal

abbrev pub invariant-loop-class : goal.invariant-loop-class
invariant-loop-class l = map key_seen l.keys.items ≡ map (key_of l.classes) (range_with_len 0 l.class)
