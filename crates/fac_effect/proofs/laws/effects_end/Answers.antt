use Rattle.fac_effect.proofs.EffectLemmas as lemma
use Rattle.fac_effect.proofs.laws.effects_end.Goals as goal

pub returns : goal.returns
returns c = lemma.effects_end
