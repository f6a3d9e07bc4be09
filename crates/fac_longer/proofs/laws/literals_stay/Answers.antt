use Rattle.fac_longer.proofs.StayingLiterals as lemma
use Rattle.fac_longer.proofs.laws.literals_stay.Goals as goal

pub returns : goal.returns
returns c = lemma.literals_are
