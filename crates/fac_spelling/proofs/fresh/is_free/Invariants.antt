use Rattle.std.proofs.Common.{◌≡◌, drop}
use Rattle.fac_spelling.proofs.fresh.is_free.Given as goal
use Rattle.fac_spelling.specs.TestedNumbers.{is_free}

abbrev pub invariant-loop-other : goal.invariant-loop-other
invariant-loop-other l = is_free l.taken l.number ≡ is_free (drop l.other-index l.taken) l.number
