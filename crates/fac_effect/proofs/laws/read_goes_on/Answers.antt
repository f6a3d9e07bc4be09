use Rattle.fac_effect.proofs.EffectLemmas as lemma
use Rattle.fac_effect.proofs.laws.read_goes_on.Goals as goal

pub returns : goal.returns
returns c = lemma.read_goes_on
