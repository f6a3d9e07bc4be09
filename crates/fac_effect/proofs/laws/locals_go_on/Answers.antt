use Rattle.fac_effect.proofs.LocalNameLemmas as lemma
use Rattle.fac_effect.proofs.laws.locals_go_on.Goals as goal

pub returns : goal.returns
returns c = lemma.locals_go_on
