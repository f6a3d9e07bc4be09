use Rattle.std.proofs.Common.{◌≡◌, suc, ◌∷◌, drop, drop-cons, sym, ap, subst, ◌∙◌}
use Rattle.fac_base.specs.declared.effect.Input.{Input}
use Rattle.fac_base.specs.Effects.{inputs_count}
use Rattle.fac_abs.specs.RowVariables.{row_name, effect_inputs}
use Rattle.fac_abs.specs.MarkPromises.{HasTop}
use Rattle.fac_abs.specs.SeenMarks.{mark_of}
use Rattle.fac_rows.specs.RowBinding.{start_row}
use Rattle.fac_rows.specs.SeenBindings.{binding_seen}
use Rattle.fac_check.specs.Flow.{start_rule}
use Rattle.fac_check.specs.inner.Walking.{IsInputRule}
use Rattle.fac_check.specs.declared.walker.Walker.{Walker}
use Rattle.fac_check.proofs.UseWalks.{rule_of_input, input_ruled}
use Rattle.fac_check.proofs.WordItems.{ok_maps}
use Rattle.fac_check.proofs.walker.Walker.inputs_rule.Goals as goal

pub returns-in-Some-quot-clause-rule : goal.returns-in-Some-quot-clause-rule
returns-in-Some-quot-clause-rule c =
    let M = c.args.self.now.marks in
    let list = c.args.list.now in
    let i = c.loop-input.input-index in
    let next : drop i list ≡ c.input-item.result ∷ drop (suc i) list = drop-cons list i c.input-item.result c.loop-input-test.true ∙ ap (λ (x : Input). x ∷ drop (suc i) list) (sym c.input-item.is) in
    let here : c.deref.result.now ≡ c.in-Some-quot.effect.value = cc in
    let top = subst (λ (w : Walker). HasTop w.marks c.loop-input.below c.in-Some.mark c.in-Some.rest) c.loop-input.invariant.same c.in-Some.ensures in
    ok_maps c.input_rule.result
    (λ r rule O.
    let N = O.naming in
    subst (λ (w : Walker). IsInputRule w.subject w.marks c.args.step c.deref.result.now c.in-Some.mark c.args.binding.now r) c.loop-input.invariant.same rule O
    ∙ ap (λ e. start_rule O.effect (start_row (row_name e) (binding_seen N M c.args.binding.now)) (mark_of N M c.in-Some.mark) (inputs_count (effect_inputs e)) c.args.step.nested) here
    ∙ ap (λ q. rule_of_input O M c.args.step (record { name = c.input-item.result.name; quot = q }) (drop (suc i) list) c.in-Some.mark c.in-Some.rest c.args.binding.now) (sym c.in-Some-quot.is)
    ∙ input_ruled O M c.args.step c.input-item.result (drop i list) (drop (suc i) list) c.loop-input.below c.in-Some.mark c.in-Some.rest c.args.binding.now next top
    ∙ sym (c.loop-input.invariant.onward O))
    c.input_rule.ensures.rule
