use Rattle.std.proofs.Common.{◌≡◌}
use Rattle.fac_base.specs.EffectView.{inputs_tree}
use Rattle.fac_effect.specs.inner.EffectParts.{names_of}
use Rattle.fac_effect.proofs.effect_parts.names.Given as goal

abbrev pub invariant-loop-input : goal.invariant-loop-input
invariant-loop-input l = l.names ≡ names_of (inputs_tree l.yielded)
