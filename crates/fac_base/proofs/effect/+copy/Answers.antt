use Rattle.std.proofs.Common.{◌≡◌, ◌+◌, [], ◌∷◌, ◌++◌, take, ap, sym, ◌∙◌}
use Rattle.std.proofs.lemmas.List.{take_more}
use Rattle.fac_base.specs.declared.effect.Input.{Input}
use Rattle.fac_base.proofs.EffectLemmas.{more_inputs_trees}
use Rattle.fac_base.proofs.effect.+copy.Goals as goal

pub copy_inputs-loop-input-preserved : goal.copy_inputs-loop-input-preserved
copy_inputs-loop-input-preserved t c =
    let done = take c.loop-input.input-index c.args.inputs.now in
    let same = more_inputs_trees c.loop-input.copied.items done c.in_ok-copy.field-0 c.input-item.result c.loop-input.invariant c.in_ok-copy.ensures in
    let more : take (c.loop-input.input-index + 1) c.args.inputs.now ≡ done ++ c.input-item.result ∷ [] =
    take_more c.args.inputs.now c.loop-input.input-index c.input-item.result c.loop-input-test.true ∙ ap (λ (input : Input). done ++ input ∷ []) (sym c.input-item.is) in
    rw (c.in_ok-push.ensures.items, more) same
