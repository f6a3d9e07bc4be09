use Rattle.std.proofs.Common.{[], List, ap, sym, ◌∙◌}
use Rattle.fac_base.specs.declared.effect.Input.{Input}
use Rattle.fac_base.specs.EffectView.{inputs_tree, effect_tree}
use Rattle.fac_abs.specs.RowVariables.{inputs_bound, more_rows, row_of}
use Rattle.fac_rows.specs.inner.BoundRows.{rows_after}
use Rattle.fac_rows.proofs.BoundRowLemmas.{all_where_sides, not_where_sides}
use Rattle.fac_rows.proofs.row_variables.+bound.Goals as goal

pub rows_bound-returns-then-sides_bound : goal.rows_bound-returns-then-sides_bound
rows_bound-returns-then-sides_bound t c =
    let rs = rows_after (inputs_tree c.args.inputs.now) (more_rows (row_of c.args.outer.now) []) in
    let parts = c.parts_bound.ensures ∙ ap (λ (q : List Input). inputs_bound (inputs_tree q) rs) c.deref.ensures.value in
    all_where_sides c.args.effect.now (effect_tree c.effect.inside) rs c.sides_bound.result c.parts_bound.result (sym c.effect.view_is) c.sides_bound.ensures c.if-sides_bound.true parts

pub rows_bound-returns-else-sides_bound : goal.rows_bound-returns-else-sides_bound
rows_bound-returns-else-sides_bound t c =
    let rs = rows_after (inputs_tree c.args.inputs.now) (more_rows (row_of c.args.outer.now) []) in
    not_where_sides c.args.effect.now rs c.sides_bound.result c.sides_bound.ensures c.if-sides_bound.false
