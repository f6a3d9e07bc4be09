use Rattle.fac_standing.proofs.StandingArrays as lemma
use Rattle.fac_standing.proofs.laws.valid_stays.Goals as goal

pub returns : goal.returns
returns c = lemma.valid_stays
