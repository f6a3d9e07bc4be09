use Rattle.std.proofs.Common.{◌≡◌, ◌++◌, map, take}
use Rattle.fac_classes.specs.declared.visits.Visit.TheVariants.{Enter}
use Rattle.fac_classes.proofs.visits.enter.Given as goal

abbrev pub invariant-loop-member : goal.invariant-loop-member
invariant-loop-member l = l.stack.items ≡ l.initial.stack.items ++ map Enter (take l.member-index l.member-items)
