use Rattle.std.proofs.Common.{ap, length, refl, arith, ◌∙◌, ◌+◌}
use Rattle.std.proofs.lemmas.List.{length_push}
use Rattle.fac_trees.proofs.PieceLemmas.{piece_more}
use Rattle.fac_trees.proofs.pieces.pieces_of.Goals as goal

pub loop-k-preserved : goal.loop-k-preserved
loop-k-preserved c =
    let so = c.loop-k.invariant in
    record {
      each = rw c.in_ok-push.ensures.items (piece_more (c.args.before + 1) c.args.texts.now c.loop-k.k c.index-texts-k.result c.loop-k.pieces.items _ so.each so.count c.loop-k-test.true c.index-texts-k.is refl refl);
      count = ap length c.in_ok-push.ensures.items ∙ length_push c.loop-k.pieces.items _ ∙ ap (λ n. n + 1) so.count;
    }
