use Rattle.std.proofs.Common.{◌≡◌, ◌+◌, List, [], ◌∷◌, ◌++◌, take, ap, sym, ◌∙◌, arith}
use Rattle.std.proofs.lemmas.List.{take_more}
use Rattle.fac_base.specs.declared.effect.Input.{Input}
use Rattle.fac_base.specs.EffectView.{inputs_tree}
use Rattle.fac_base.specs.Signatures.{signature_depth, inputs_depth}
use Rattle.fac_rows.proofs.NumberingLemmas.{more_numbered, quot_depth, input_depth}
use Rattle.fac_rows.proofs.numbering.+numbered.Goals as goal

pub numbered_inputs-loop-input-preserved : goal.numbered_inputs-loop-input-preserved
numbered_inputs-loop-input-preserved t c =
    let done = take c.loop-input.input-index c.args.inputs.now in
    let same = more_numbered c.args.outer.now c.loop-input.made.items done c.in_ok-numbered_input.field-0 c.input-item.result c.loop-input.invariant c.in_ok-numbered_input.ensures in
    let more : take (c.loop-input.input-index + 1) c.args.inputs.now ≡ done ++ c.input-item.result ∷ [] =
    take_more c.args.inputs.now c.loop-input.input-index c.input-item.result c.loop-input-test.true ∙ ap (λ (input : Input). done ++ input ∷ []) (sym c.input-item.is) in
    rw (c.in_ok-push.ensures.items, more) same

pub numbered_input-numbered_within-requires : goal.numbered_input-numbered_within-requires
numbered_input-numbered_within-requires t c =
    let same = ap signature_depth c.deref.ensures in
    (omega (arith, c.decreases, same, quot_depth c.args.input.now c.in-Some.effect c.in-Some.is), tt)

pub numbered_inputs-numbered_input-requires : goal.numbered_inputs-numbered_input-requires
numbered_inputs-numbered_input-requires t c =
    let input = c.input-item.result in
    (omega (arith, c.decreases, input_depth c.args.inputs.now c.loop-input.input-index input input c.loop-input-test.true c.input-item.is), tt)

pub numbered_within-numbered_inputs-requires : goal.numbered_within-numbered_inputs-requires
numbered_within-numbered_inputs-requires t c =
    let same : inputs_depth (inputs_tree c.deref.result.now) ≡ signature_depth c.args.effect.now = ap (λ (is : List Input). inputs_depth (inputs_tree is)) c.deref.ensures.value ∙ ap signature_depth c.effect.view_is in
    (omega (arith, c.decreases, same), tt)
