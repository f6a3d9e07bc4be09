use Rattle.std.proofs.Common.{take}
use Rattle.fac_par.specs.Pieces.{MeetEach}
use Rattle.fac_par.proofs.mapping.work_chunk.Given as goal

abbrev pub invariant-loop-k : goal.invariant-loop-k
invariant-loop-k g l = MeetEach g.P.Piece.meets (take l.k l.pieces) l.outs.items
