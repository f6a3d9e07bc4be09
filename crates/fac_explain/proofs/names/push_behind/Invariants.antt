use Rattle.std.proofs.Common.{◌≡◌, ◌++◌, false, drop}
use Rattle.fac_explain.specs.Names.{names_behind}
use Rattle.fac_explain.proofs.names.push_behind.Given as goal

abbrev pub invariant-loop-spot : goal.invariant-loop-spot
invariant-loop-spot l = l.names ++ names_behind l.text l.is_name (drop l.spot-index l.spots) ≡ l.initial.names ++ names_behind l.text false l.spots
