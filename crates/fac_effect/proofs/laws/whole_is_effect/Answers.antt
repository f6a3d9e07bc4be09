use Rattle.fac_effect.proofs.EffectLemmas as lemma
use Rattle.fac_effect.proofs.laws.whole_is_effect.Goals as goal

pub returns : goal.returns
returns c = lemma.whole_is_effect
