use Rattle.std.proofs.Common.{◌≡◌, ◌*◌, ◌≤◌, take, drop, length}
use Rattle.fac_par.specs.Pieces.{MeetEach}
use Rattle.fac_par.proofs.mapping.join_chunks.Given as goal

abbrev pub invariant-loop-chunks : goal.invariant-loop-chunks
invariant-loop-chunks g l = record {
  done : l.done ≤ length l.initial.chunks.items;
  left : l.chunks.items ≡ drop l.done l.initial.chunks.items;
  joined : MeetEach g.P.Piece.meets (take (l.done * l.size) l.pieces) l.joined.items;
}

abbrev pub decreases-loop-chunks : goal.decreases-loop-chunks
decreases-loop-chunks g l = length l.chunks.items
