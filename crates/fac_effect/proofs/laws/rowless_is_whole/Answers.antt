use Rattle.fac_effect.proofs.RowlessLemmas as lemma
use Rattle.fac_effect.proofs.laws.rowless_is_whole.Goals as goal

pub returns : goal.returns
returns c = lemma.rowless_is_whole
