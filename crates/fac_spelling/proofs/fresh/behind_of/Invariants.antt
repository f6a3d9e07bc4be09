use Rattle.std.proofs.Common.{◌≡◌, ◌++◌, drop}
use Rattle.fac_spelling.proofs.fresh.behind_of.Given as goal
use Rattle.fac_spelling.specs.inner.TakenBehind.{taken_behind}

abbrev pub invariant-loop-number : goal.invariant-loop-number
invariant-loop-number l = l.rest.items ++ taken_behind l.byte (drop l.number-index l.taken) ≡ taken_behind l.byte l.taken
