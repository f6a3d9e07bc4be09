use Rattle.std.proofs.Common.{◌∙◌, sym, ap, subst}
use Rattle.fac_abs.specs.SeenMarks.{stack_of, base_seen}
use Rattle.fac_rows.specs.RowNumbers.{NamesOwn}
use Rattle.fac_rows.specs.RowBinding.{calls_own}
use Rattle.fac_rows.specs.SeenBindings.{rule_of_call}
use Rattle.fac_check.specs.Flow.{first_rule}
use Rattle.fac_check.proofs.WordItems.{ok_maps}
use Rattle.fac_check.proofs.walker.Walker.first_rule.Goals as goal

pub returns-in-Lit : goal.returns-in-Lit
returns-in-Lit c = λ O.
    c.phrase_rule.ensures ∙ ap (λ m. first_rule O.effect m c.args.step.nested (base_seen O.naming c.args.step.base) (stack_of O.naming c.args.self.now.marks c.args.step.stack)) (sym (c.in-Lit.ensures.is O.naming))

pub returns-in-Par : goal.returns-in-Par
returns-in-Par c =
    ok_maps c.par_rule.result
    (λ r calls O.
    let N = O.naming in
    let b = base_seen N c.args.step.base in
    let ms = stack_of N c.args.self.now.marks c.args.step.stack in
    let same = c.own_effect-own.ensures ∙ sym O.effect_is in
    calls N (subst (NamesOwn N) (sym same) O.rows)
    ∙ ap (λ e. rule_of_call (calls_own c.in-Par.input e b ms)) same
    ∙ ap (λ m. first_rule O.effect m c.args.step.nested b ms) (sym (c.in-Par.ensures N)))
    c.par_rule.ensures
