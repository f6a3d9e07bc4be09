use Rattle.std.proofs.Common.{◌∙◌}
use Rattle.fac_abs.specs.SeenMarks.{stack_of, base_seen}
use Rattle.fac_check.proofs.WordItems.{ok_maps}
use Rattle.fac_check.proofs.walker.Walker.use_rule.Goals as goal

pub returns-clause-rule : goal.returns-clause-rule
returns-clause-rule c =
    ok_maps c.effect_rule.result
    (λ r rule O.
    let N = O.naming in
    let M = c.args.self.now.marks in
    let s = c.args.step in
    rule O ∙ c.used_effect-effect.ensures.rules_alike O.effect (stack_of N M c.args.inputs) s.nested (base_seen N s.base) (stack_of N M s.stack))
    c.effect_rule.ensures.rule
