use Rattle.std.proofs.Common.{◌≡◌, take}
use Rattle.fac_base.proofs.list.ListDuplicate.copy.Given as goal

abbrev pub invariant-loop-value : goal.invariant-loop-value
invariant-loop-value g l = l.list ≡ take l.value-index l.value-items
