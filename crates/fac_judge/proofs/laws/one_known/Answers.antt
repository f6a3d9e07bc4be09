use Rattle.fac_judge.proofs.KnownLemmas as lemma
use Rattle.fac_judge.proofs.laws.one_known.Goals as goal

pub returns : goal.returns
returns c = lemma.one_known c.one_source.ensures
