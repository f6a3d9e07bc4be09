use Rattle.std.proofs.Common.{◌≡◌, ◌+◌, ◌*◌, [], ◌∷◌, take}
use Rattle.fac_base.specs.EffectView.{inputs_tree}
use Rattle.fac_base.specs.Signatures.{signature_depth, inputs_depth}
use Rattle.fac_rows.specs.NumberedRows.{numbered_inputs}
use Rattle.fac_rows.proofs.numbering.+numbered.Given as goal

abbrev pub decreases-numbered_input : goal.decreases-numbered_input
decreases-numbered_input l = 3 * inputs_depth (inputs_tree (l.input.now ∷ []))

abbrev pub decreases-numbered_inputs : goal.decreases-numbered_inputs
decreases-numbered_inputs l = 3 * inputs_depth (inputs_tree l.inputs.now) + 1

abbrev pub decreases-numbered_within : goal.decreases-numbered_within
decreases-numbered_within l = 3 * signature_depth l.effect.now + 2

abbrev pub invariant-numbered_inputs-loop-input : goal.invariant-numbered_inputs-loop-input
invariant-numbered_inputs-loop-input l = inputs_tree l.made.items ≡ numbered_inputs l.outer (inputs_tree (take l.input-index l.inputs))
