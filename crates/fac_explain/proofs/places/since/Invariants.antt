use Rattle.std.proofs.Common.{◌≡◌, ◌≤◌, take, drop}
use Rattle.fac_token.specs.Spots.{since_break}
use Rattle.fac_explain.proofs.places.since.Given as goal

abbrev pub invariant-loop-index : goal.invariant-loop-index
invariant-loop-index l = record { low : l.start ≤ l.index; so_far : since_break (take l.index l.before) ≡ drop l.start (take l.index l.before) }
