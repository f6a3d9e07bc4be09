use Rattle.std.proofs.Common.{◌-◌}
use Rattle.fac_check.proofs.SearchLemmas.{Narrowed}
use Rattle.fac_check.proofs.searching.least.Given as goal

abbrev pub invariant-narrowing : goal.invariant-narrowing
invariant-narrowing l = Narrowed l.closed l.template l.low l.high l.found

abbrev pub decreases-narrowing : goal.decreases-narrowing
decreases-narrowing l = l.high - l.low
