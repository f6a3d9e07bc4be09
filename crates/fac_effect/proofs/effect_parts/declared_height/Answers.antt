use Rattle.std.proofs.Common.{◌≤◌, sym, subst}
use Rattle.fac_base.specs.Effects.{effect_height}
use Rattle.fac_base.specs.Signatures.{Signature}
use Rattle.fac_effect.proofs.EffectLemmas.{anywhere}
use Rattle.fac_effect.proofs.RowlessLemmas.{few_inputs}
use Rattle.fac_effect.proofs.effect_parts.declared_height.Goals as goal

pub height_of-requires : goal.height_of-requires
height_of-requires c = subst (λ (e : Signature). (effect_height e).ins ≤ 64) (sym (c.in_ok-effect.ensures anywhere)) (few_inputs anywhere c.args.tokens.now c.requires)
