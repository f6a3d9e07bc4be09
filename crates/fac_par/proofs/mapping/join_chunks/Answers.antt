use Rattle.std.proofs.Common.{arith, ◌<◌, ◌∙◌, length}
use Rattle.std.proofs.lemmas.Grind.{common_steps}
use Rattle.fac_par.proofs.MeetLemmas.{meet_chunk, chunk_at, drop_next}
use Rattle.fac_par.proofs.mapping.join_chunks.Goals as goal

pub loop-chunks-preserved : goal.loop-chunks-preserved
loop-chunks-preserved g c =
    let below : c.loop-chunks.done < length c.args.chunks.items = grind (arith, common_steps) in
    let outs = chunk_at g.P.Piece.meets c.args.size c.args.pieces.now c.args.chunks.items c.loop-chunks.chunks.items c.loop-chunks.done c.remove.result c.in_ok-outs.outs c.requires.each c.loop-chunks.invariant.left below c.remove.ensures.value c.in_ok-outs.was in
    record {
      done = omega arith;
      left = c.remove.ensures.items ∙ drop_next c.args.chunks.items c.loop-chunks.chunks.items c.loop-chunks.done c.remove.result c.loop-chunks.invariant.left below;
      joined = rw c.in_ok-append.ensures (meet_chunk g.P.Piece.meets c.args.pieces.now c.args.size c.loop-chunks.done c.loop-chunks.joined.items c.in_ok-outs.outs.items c.loop-chunks.invariant.joined outs);
    }
