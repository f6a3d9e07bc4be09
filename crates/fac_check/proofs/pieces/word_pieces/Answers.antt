use Rattle.std.proofs.Common.{◌<◌, ◌+◌, ◌∙◌, List, length, refl, sym, subst, ap, arith}
use Rattle.std.proofs.lemmas.List.{length_push}
use Rattle.fac_abs.specs.InTurn.{FitsInTurn}
use Rattle.fac_abs.proofs.InTurnLemmas.{fits_push}
use Rattle.fac_check.specs.declared.pieces.WordPiece.{WordPiece}
use Rattle.fac_check.specs.inner.Pieces.{IsWordPiece}
use Rattle.fac_check.proofs.PieceLemmas.{words_ready}
use Rattle.fac_check.proofs.pieces.word_pieces.Goals as goal

pub loop-number-preserved : goal.loop-number-preserved
loop-number-preserved c =
    let closed = c.args.closed.now in
    let before = c.loop-number.pieces.items in
    let so = c.loop-number.invariant in
    let below : c.loop-number.number < length closed.program.words = omega (arith, c.loop-number-test.true, c.len-number-end.ensures) in
    record {
      each =
          subst (λ (ps : List WordPiece). FitsInTurn (IsWordPiece closed) 0 ps) (sym c.in_ok-push.ensures.items)
          (fits_push (IsWordPiece closed) before 0 c.loop-number.number _ so.each (omega (arith, so.count)) (record { same = refl; number_is = refl; ready = record { stands = c.requires.stands; entries = c.requires.rows; flags = c.requires.undeclared; word = below } }));
      count = ap length c.in_ok-push.ensures.items ∙ length_push before _ ∙ ap (λ n. n + 1) so.count;
    }

pub returns-clause-pieces : goal.returns-clause-pieces
returns-clause-pieces c =
    let so = c.loop-number.invariant in
    record { each = so.each; all = omega (arith, so.count, c.loop-number-test.false, c.loop-number.auto.number-end, c.len-number-end.ensures) }

pub returns-clause-ready : goal.returns-clause-ready
returns-clause-ready c = words_ready c.args.closed.now c.loop-number.pieces.items c.loop-number.invariant.each
