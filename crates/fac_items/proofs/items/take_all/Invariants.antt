use Rattle.std.proofs.Common.{◌≡◌, drop}
use Rattle.fac_items.specs.inner.Behind.{names_seen}
use Rattle.fac_items.specs.inner.Bits.{all_bits}
use Rattle.fac_items.specs.inner.TakenBits.{bits_taken}
use Rattle.fac_items.proofs.items.take_all.Given as goal

abbrev pub invariant-loop-element : goal.invariant-loop-element
invariant-loop-element l = bits_taken l.scope l.initial.nest (all_bits (names_seen l.initial.left) l.elements) ≡ bits_taken l.scope l.nest (all_bits (names_seen l.left) (drop l.element-index l.elements))
