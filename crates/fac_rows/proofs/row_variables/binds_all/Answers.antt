use Rattle.std.proofs.Common.{[], List, ap, sym, ◌∙◌}
use Rattle.fac_base.specs.declared.effect.Input.{Input}
use Rattle.fac_base.specs.EffectView.{inputs_tree, effect_tree}
use Rattle.fac_abs.specs.RowVariables.{bound_rows, all_bound, more_rows, row_of}
use Rattle.fac_rows.specs.inner.BoundRows.{could_bind, rows_after}
use Rattle.fac_rows.proofs.BoundRowLemmas.{binds_where_started}
use Rattle.fac_rows.proofs.row_variables.binds_all.Goals as goal

pub returns-then-all_start_bound : goal.returns-then-all_start_bound
returns-then-all_start_bound c =
    let e = c.args.effect.now in
    let rs = more_rows (row_of c.effect.inside.row_in) [] in
    let started = c.all_start_bound.ensures ∙ ap (λ (q : List Input). could_bind (bound_rows (inputs_tree q) rs)) c.deref.ensures.value in
    let bound = c.rows_bound.ensures ∙ ap (λ (q : List Input). all_bound e (rows_after (inputs_tree q) rs)) c.deref-then-all_start_bound.ensures.value in
    binds_where_started e (effect_tree c.effect.inside) c.all_start_bound.result c.rows_bound.result (sym c.effect.view_is) started c.if-all_start_bound.true bound
