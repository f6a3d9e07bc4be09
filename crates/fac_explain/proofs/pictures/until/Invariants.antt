use Rattle.std.proofs.Common.{◌≡◌, ◌++◌, take, drop}
use Rattle.fac_explain.specs.Pictures.{until_break}
use Rattle.fac_explain.proofs.pictures.until.Given as goal

abbrev pub invariant-loop-index : goal.invariant-loop-index
invariant-loop-index l = until_break l.behind ≡ take l.index l.behind ++ until_break (drop l.index l.behind)
