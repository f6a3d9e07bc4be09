use Rattle.fac_par.proofs.MeetLemmas.{meet_more}
use Rattle.fac_par.proofs.mapping.work_chunk.Goals as goal

pub loop-k-preserved : goal.loop-k-preserved
loop-k-preserved g c =
    rw c.in_ok-push.ensures.items
    (meet_more g.P.Piece.meets c.args.pieces.now c.loop-k.k c.index-pieces-k.result c.loop-k.outs.items c.in_ok-out.out c.loop-k.invariant c.loop-k-test.true c.index-pieces-k.is c.in_ok-out.ensures)
