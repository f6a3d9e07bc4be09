use Rattle.std.proofs.Common.{◌≡◌, [], drop, take}
use Rattle.fac_base.specs.EffectView.{inputs_tree}
use Rattle.fac_abs.specs.RowVariables.{bound_rows, row_of, more_rows}
use Rattle.fac_rows.specs.inner.BoundRows.{rows_after}
use Rattle.fac_rows.proofs.row_variables.all_start_bound.Given as goal

abbrev pub invariant-loop-index : goal.invariant-loop-index
invariant-loop-index l =
    let rs = more_rows (row_of l.outer) [] in
    bound_rows (inputs_tree l.inputs) rs ≡ bound_rows (inputs_tree (drop l.index l.inputs)) (rows_after (inputs_tree (take l.index l.inputs)) rs)
