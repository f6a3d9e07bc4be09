use Rattle.std.proofs.Common.{◌≡◌, ◌+◌, take, length}
use Rattle.fac_trees.specs.TextTrees.{ArePieces}
use Rattle.fac_trees.proofs.pieces.pieces_of.Given as goal

abbrev pub invariant-loop-k : goal.invariant-loop-k
invariant-loop-k l = record { each : ArePieces (l.before + 1) (take l.k l.texts) l.pieces.items; count : length l.pieces.items ≡ l.k }
