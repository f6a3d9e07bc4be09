use Rattle.fac_standing.proofs.StandingArrays as lemma
use Rattle.fac_standing.proofs.laws.first_arrays_stand.Goals as goal

pub returns : goal.returns
returns c = lemma.first_stand
