use Rattle.fac_effect.proofs.PartLemmas.{effect_made}
use Rattle.fac_effect.proofs.effect_parts.effect_from.Goals as goal

pub returns : goal.returns
returns c = effect_made c.args.tokens.now c.effect.new.self.tokens.now c.effect.result c.requires c.effect.ensures.gives
