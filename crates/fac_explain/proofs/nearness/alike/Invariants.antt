use Rattle.std.proofs.Common.{◌≡◌, ◌≤◌, ◌+◌, length, drop}
use Rattle.fac_explain.specs.Nearness.{alike}
use Rattle.fac_explain.proofs.nearness.alike.Given as goal

abbrev pub invariant-loop-index : goal.invariant-loop-index
invariant-loop-index l = record { is : alike l.text l.other ≡ l.index + alike (drop l.index l.text) (drop l.index l.other); few : l.index ≤ length l.other }
