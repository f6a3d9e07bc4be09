use Rattle.std.proofs.Common.{◌≡◌, [], drop}
use Rattle.fac_base.specs.EffectView.{inputs_tree}
use Rattle.fac_abs.specs.RowVariables.{inputs_bound, row_of, more_rows}
use Rattle.fac_rows.specs.inner.BoundRows.{rows_after}
use Rattle.fac_rows.proofs.row_variables.+bound.Given as goal

abbrev pub invariant-parts_bound-loop-part : goal.invariant-parts_bound-loop-part
invariant-parts_bound-loop-part l =
    let rs = rows_after (inputs_tree l.inputs) (more_rows (row_of l.outer) []) in
    inputs_bound (inputs_tree l.parts) rs ≡ inputs_bound (inputs_tree (drop l.part-index l.parts)) rs
