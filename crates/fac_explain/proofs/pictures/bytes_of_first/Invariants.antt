use Rattle.std.proofs.Common.{◌≡◌, ◌+◌, drop}
use Rattle.fac_explain.specs.Pictures.{bytes_of_first}
use Rattle.fac_explain.proofs.pictures.bytes_of_first.Given as goal

abbrev pub invariant-loop-index : goal.invariant-loop-index
invariant-loop-index l = bytes_of_first l.count l.bytes ≡ l.index + bytes_of_first l.left (drop l.index l.bytes)
