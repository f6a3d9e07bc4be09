use Rattle.std.proofs.Common.{◌≡◌, ◌+◌, [], ◌∷◌, ◌++◌, List, drop, take, sym, ap, ◌∙◌}
use Rattle.std.proofs.lemmas.List.{drop_more, take_more}
use Rattle.fac_base.specs.declared.effect.Input.{Input}
use Rattle.fac_base.specs.EffectView.{inputs_tree}
use Rattle.fac_abs.specs.RowVariables.{bound_rows, row_of, more_rows}
use Rattle.fac_rows.specs.inner.BoundRows.{could_bind, rows_after}
use Rattle.fac_rows.proofs.BoundRowLemmas.{bound_goes_on, free_stops}
use Rattle.fac_rows.proofs.row_variables.all_start_bound.Goals as goal

pub returns-then-not-starts_bound : goal.returns-then-not-starts_bound
returns-then-not-starts_bound c =
    let is = c.args.inputs.now in
    let k = c.loop-index.index in
    let i = c.index-inputs-index.result in
    let rs = more_rows (row_of c.args.outer.now) [] in
    let next : drop k is ≡ i ∷ drop (k + 1) is = drop_more is k i c.loop-index-test.true ∙ ap (λ (j : Input). j ∷ drop (k + 1) is) (sym c.index-inputs-index.is) in
    let stopped = free_stops i (drop (k + 1) is) (rows_after (inputs_tree (take k is)) rs) (sym c.starts_bound.ensures ∙ c.if-not-starts_bound.true) in
    sym (ap could_bind (c.loop-index.invariant ∙ ap (λ (q : List Input). bound_rows (inputs_tree q) (rows_after (inputs_tree (take k is)) rs)) next ∙ stopped))

pub loop-index-preserved : goal.loop-index-preserved
loop-index-preserved c =
    let is = c.args.inputs.now in
    let k = c.loop-index.index in
    let i = c.index-inputs-index.result in
    let rs = more_rows (row_of c.args.outer.now) [] in
    let next : drop k is ≡ i ∷ drop (k + 1) is = drop_more is k i c.loop-index-test.true ∙ ap (λ (j : Input). j ∷ drop (k + 1) is) (sym c.index-inputs-index.is) in
    let more : take (k + 1) is ≡ take k is ++ i ∷ [] = take_more is k i c.loop-index-test.true ∙ ap (λ (j : Input). take k is ++ j ∷ []) (sym c.index-inputs-index.is) in
    let on = bound_goes_on i (drop (k + 1) is) (take k is) rs (sym c.starts_bound.ensures ∙ c.if-not-starts_bound.false) in
    c.loop-index.invariant ∙ ap (λ (q : List Input). bound_rows (inputs_tree q) (rows_after (inputs_tree (take k is)) rs)) next ∙ on ∙ ap (λ (q : List Input). bound_rows (inputs_tree (drop (k + 1) is)) (rows_after (inputs_tree q) rs)) (sym more)
