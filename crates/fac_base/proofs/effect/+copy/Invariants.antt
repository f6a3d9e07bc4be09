use Rattle.std.proofs.Common.{◌≡◌, take}
use Rattle.fac_base.specs.EffectView.{inputs_tree}
use Rattle.fac_base.proofs.effect.+copy.Given as goal

abbrev pub invariant-copy_inputs-loop-input : goal.invariant-copy_inputs-loop-input
invariant-copy_inputs-loop-input l = inputs_tree l.copied.items ≡ inputs_tree (take l.input-index l.inputs)
