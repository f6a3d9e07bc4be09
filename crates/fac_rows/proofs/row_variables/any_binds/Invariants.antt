use Rattle.std.proofs.Common.{◌≡◌, drop}
use Rattle.fac_base.specs.EffectView.{inputs_tree}
use Rattle.fac_rows.specs.inner.BoundRows.{inputs_bind}
use Rattle.fac_rows.proofs.row_variables.any_binds.Given as goal

abbrev pub invariant-loop-input : goal.invariant-loop-input
invariant-loop-input l = inputs_bind l.row (inputs_tree l.inputs) ≡ inputs_bind l.row (inputs_tree (drop l.input-index l.inputs))
