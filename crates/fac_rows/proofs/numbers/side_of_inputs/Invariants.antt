use Rattle.std.proofs.Common.{◌≡◌, drop}
use Rattle.fac_base.specs.EffectView.{inputs_tree}
use Rattle.fac_rows.specs.RowNumbers.{inputs_sides, side_number}
use Rattle.fac_rows.proofs.numbers.side_of_inputs.Given as goal

abbrev pub invariant-loop-input : goal.invariant-loop-input
invariant-loop-input l = side_number 3 l.name (inputs_sides (inputs_tree l.inputs)) ≡ side_number l.number l.name (inputs_sides (inputs_tree (drop l.input-index l.inputs)))
