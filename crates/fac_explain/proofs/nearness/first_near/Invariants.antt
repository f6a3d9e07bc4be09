use Rattle.std.proofs.Common.{◌≡◌, drop}
use Rattle.fac_explain.specs.Nearness.{first_near}
use Rattle.fac_explain.proofs.nearness.first_near.Given as goal

abbrev pub invariant-loop-other : goal.invariant-loop-other
invariant-loop-other l = first_near l.name l.names ≡ first_near l.name (drop l.other-index l.names)
