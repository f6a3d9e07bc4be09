use Rattle.fac_effect.proofs.EffectLemmas as lemma
use Rattle.fac_effect.proofs.laws.effect_is_whole.Goals as goal

pub returns : goal.returns
returns c = lemma.effect_is_whole
