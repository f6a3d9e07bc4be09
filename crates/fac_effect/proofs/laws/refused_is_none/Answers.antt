use Rattle.fac_effect.proofs.EffectLemmas as lemma
use Rattle.fac_effect.proofs.laws.refused_is_none.Goals as goal

pub returns : goal.returns
returns c = lemma.refused_is_none
