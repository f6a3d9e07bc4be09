use Rattle.fac_effect.proofs.RowlessLemmas.{opened_made}
use Rattle.fac_effect.proofs.effect_parts.effect_behind.Goals as goal

pub returns : goal.returns
returns c = opened_made c.args.tokens.now c.opened.new.self.tokens.now c.opened.result c.requires c.opened.ensures.gives
