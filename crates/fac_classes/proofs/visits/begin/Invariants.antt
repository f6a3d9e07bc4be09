use Rattle.std.proofs.Common.{◌≡◌, ◌++◌, map}
use Rattle.std.specs.List.{range_with_len}
use Rattle.fac_classes.specs.declared.visits.Visit.TheVariants.{Enter}
use Rattle.fac_classes.proofs.visits.begin.Given as goal

abbrev pub invariant-loop-class : goal.invariant-loop-class
invariant-loop-class l = l.stack.items ≡ l.initial.stack.items ++ map Enter (range_with_len 0 l.class)
