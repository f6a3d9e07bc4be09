use Rattle.std.proofs.Common.{◌≡◌, ◌<◌, ◌≤◌, List, length, refl, ap, arith, ◌∙◌}
use Rattle.fac_lang.specs.declared.phrase.Template.{Template}
use Rattle.fac_emit.proofs.CodeLists.{template_piece_step, all_template_pieces}
use Rattle.fac_emit.proofs.pieces.template_pieces.Goals as goal

pub loop-number-preserved : goal.loop-number-preserved
loop-number-preserved c =
    let C = c.args.emission.now in
    let at = c.loop-number in
    let many : c.len-count.result ≡ length C.templates = c.len-count.ensures ∙ ap (λ (ts : List Template). length ts) c.templates.ensures in
    let below : at.number < length C.templates = omega (arith, c.loop-number-test.true, many) in
    template_piece_step C at.number at.pieces.items _ _ below at.invariant c.in_ok-push.ensures.items refl

pub returns : goal.returns
returns c =
    let C = c.args.emission.now in
    let at = c.loop-number in
    let many : c.len-count.result ≡ length C.templates = c.len-count.ensures ∙ ap (λ (ts : List Template). length ts) c.templates.ensures in
    let none : length C.templates ≤ at.number = omega (arith, c.loop-number-test.false, many) in
    all_template_pieces C at.number at.pieces.items none at.invariant
