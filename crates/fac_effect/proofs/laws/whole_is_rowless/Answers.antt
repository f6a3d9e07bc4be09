use Rattle.fac_effect.proofs.RowlessLemmas as lemma
use Rattle.fac_effect.proofs.laws.whole_is_rowless.Goals as goal

pub returns : goal.returns
returns c = lemma.whole_is_rowless
