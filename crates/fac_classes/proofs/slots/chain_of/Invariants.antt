use Rattle.std.proofs.Common.{◌≡◌, ◌++◌, length, Some}
use Rattle.fac_classes.specs.inner.Chains.{chain_within}
use Rattle.fac_classes.proofs.slots.chain_of.Given as goal

abbrev pub invariant-up : goal.invariant-up
invariant-up l = chain_within (length l.classes) l.classes (Some l.class) ≡ l.chain.items ++ chain_within l.left l.classes l.next

abbrev pub decreases-up : goal.decreases-up
decreases-up l = l.left
