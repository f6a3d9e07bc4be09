use Rattle.std.proofs.Common.{◌≡◌, drop}
use Rattle.fac_explain.specs.Nearness.{is_alone}
use Rattle.fac_explain.proofs.nearness.is_alone.Given as goal

abbrev pub invariant-loop-other : goal.invariant-loop-other
invariant-loop-other l = is_alone l.name l.near l.names ≡ is_alone l.name l.near (drop l.other-index l.names)
