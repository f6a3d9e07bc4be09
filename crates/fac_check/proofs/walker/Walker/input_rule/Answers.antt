use Rattle.std.proofs.Common.{◌∙◌, sym, ap, subst, Some}
use Rattle.fac_base.specs.Effects.{inputs_count}
use Rattle.fac_abs.specs.RowVariables.{effect_inputs}
use Rattle.fac_abs.specs.SeenMarks.{mark_of, stack_of, base_seen}
use Rattle.fac_abs.specs.declared.reached.Reached.{Reached}
use Rattle.fac_rows.specs.SeenBindings.{IsStart}
use Rattle.fac_check.specs.Flow.{first_rule, start_rule}
use Rattle.fac_check.proofs.WordItems.{ok_maps}
use Rattle.fac_check.proofs.walker.Walker.input_rule.Goals as goal

pub returns-in-On-clause-rule : goal.returns-in-On-clause-rule
returns-in-On-clause-rule c =
    let M = c.args.self.now.marks in
    let L = c.start.new.marks in
    let e = c.args.effect.now in
    let d = c.args.step.nested in
    let starts = subst (IsStart M L c.args.binding.now e) (c.in-Some.is ∙ ap (λ (A : Reached). Some A) c.in-On.is) c.in_ok-start.ensures.starts in
    ok_maps c.first_rule.result
    (λ r rule O.
    let N = O.naming in
    let b = base_seen N c.in-On.base in
    let start = starts.1 N in
    rule O
    ∙ ap (λ m. first_rule O.effect m d b (stack_of N L c.in-On.stack)) (c.in_ok-start.ensures.grows.same_mark N c.args.mark c.requires.mark)
    ∙ ap (λ ms. first_rule O.effect (mark_of N M c.args.mark) d b ms) start.2
    ∙ ap (λ o. start_rule O.effect o (mark_of N M c.args.mark) (inputs_count (effect_inputs e)) d) (sym start.1))
    c.first_rule.ensures
