use Rattle.std.proofs.Common.{◌≡◌, ◌++◌, length}
use Rattle.fac_classes.specs.inner.Chains.{slots_down}
use Rattle.fac_classes.proofs.slots.slots_of_chain.Given as goal

abbrev pub invariant-loop-class : goal.invariant-loop-class
invariant-loop-class l = slots_down l.classes l.chain ≡ l.slots ++ slots_down l.classes l.rest

abbrev pub decreases-loop-class : goal.decreases-loop-class
decreases-loop-class l = length l.rest
