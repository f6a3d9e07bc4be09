use Rattle.std.proofs.Common.{◌≡◌, drop}
use Rattle.fac_base.specs.EffectView.{inputs_tree}
use Rattle.fac_abs.specs.RowVariables.{inputs_rows}
use Rattle.fac_rows.proofs.row_variables.+rows.Given as goal

abbrev pub invariant-inputs_have_rows-loop-input : goal.invariant-inputs_have_rows-loop-input
invariant-inputs_have_rows-loop-input l = inputs_rows (inputs_tree l.inputs) ≡ inputs_rows (inputs_tree (drop l.input-index l.inputs))
