use Rattle.fac_effect.proofs.RowlessLemmas as lemma
use Rattle.fac_effect.proofs.laws.rowless_goes_on.Goals as goal

pub returns : goal.returns
returns c = lemma.rowless_goes_on
