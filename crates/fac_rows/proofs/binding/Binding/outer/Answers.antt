use Rattle.std.proofs.Common.{◌≡◌, Option, Some, sym, ap, ◌∙◌, subst}
use Rattle.fac_base.specs.EffectView.{inputs_tree, outs_leaving}
use Rattle.fac_abs.specs.RowVariables.{Row, hidden, named_row, outer_out}
use Rattle.fac_abs.specs.MarkPromises.{IsReachedWhere}
use Rattle.fac_rows.specs.RowBinding.{row_bound}
use Rattle.fac_rows.specs.SeenBindings.{binding_seen}
use Rattle.fac_rows.proofs.BindingLemmas.{hidden_out}
use Rattle.fac_rows.proofs.CallLemmas.{out_row}
use Rattle.fac_rows.proofs.binding.Binding.outer.Goals as goal

pub returns-in-Some : goal.returns-in-Some
returns-in-Some c = λ M there.
    let x = c.in-Some.name.now in
    let row : Some (named_row x) ≡ outer_out c.args.effect.now = sym (out_row c.effect.inside.row_in (inputs_tree c.effect.inside.ins.items) (outs_leaving c.effect.inside.outs) x (sym c.in-Some.ensures)) ∙ ap outer_out c.effect.view_is in
    subst (λ (r : Option Row). IsReachedWhere M c.find.result (λ N. row_bound r (binding_seen N M c.args.self.now))) row (c.find.ensures M there)

pub returns-else-has_rows : goal.returns-else-has_rows
returns-else-has_rows c = λ M there.
    let row : Some hidden ≡ outer_out c.args.effect.now = sym (hidden_out c.args.effect.now c.if-has_rows.ensures) in
    subst (λ (r : Option Row). IsReachedWhere M c.find-else-has_rows.result (λ N. row_bound r (binding_seen N M c.args.self.now))) row (c.find-else-has_rows.ensures M there)
