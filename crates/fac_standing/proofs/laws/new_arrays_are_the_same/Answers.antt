use Rattle.fac_standing.proofs.StandingArrays as lemma
use Rattle.fac_standing.proofs.laws.new_arrays_are_the_same.Goals as goal

pub returns : goal.returns
returns c = lemma.new_same
