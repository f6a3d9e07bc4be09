use Rattle.std.proofs.Common.{◌≡◌, drop}
use Rattle.fac_base.specs.EffectView.{inputs_tree}
use Rattle.fac_abs.specs.RowVariables.{nested_one_sided}
use Rattle.fac_rows.proofs.row_variables.+lone.Given as goal

abbrev pub invariant-any_lone-loop-input : goal.invariant-any_lone-loop-input
invariant-any_lone-loop-input l = nested_one_sided (inputs_tree l.inputs) ≡ nested_one_sided (inputs_tree (drop l.input-index l.inputs))
