use Rattle.fac_longer.proofs.StayingLiterals as lemma
use Rattle.fac_longer.proofs.laws.templates_stay.Goals as goal

pub returns : goal.returns
returns c = lemma.templates_are
