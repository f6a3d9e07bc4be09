use Rattle.std.proofs.Common.{◌≡◌, ◌<◌, ◌≤◌, length, refl, ap, arith, ◌∙◌}
use Rattle.fac_lang.specs.declared.program.Program.{Program}
use Rattle.fac_emit.proofs.CodeLists.{word_piece_step, all_word_pieces}
use Rattle.fac_emit.proofs.pieces.word_pieces.Goals as goal

pub loop-number-preserved : goal.loop-number-preserved
loop-number-preserved c =
    let C = c.args.emission.now in
    let at = c.loop-number in
    let many : c.len-count.result ≡ length C.program.words = c.len-count.ensures ∙ ap (λ (P : Program). length P.words) c.program.ensures in
    let below : at.number < length C.program.words = omega (arith, c.loop-number-test.true, many) in
    word_piece_step C at.number at.pieces.items _ _ below at.invariant c.in_ok-push.ensures.items refl

pub returns : goal.returns
returns c =
    let C = c.args.emission.now in
    let at = c.loop-number in
    let many : c.len-count.result ≡ length C.program.words = c.len-count.ensures ∙ ap (λ (P : Program). length P.words) c.program.ensures in
    let none : length C.program.words ≤ at.number = omega (arith, c.loop-number-test.false, many) in
    all_word_pieces C at.number at.pieces.items none at.invariant
