use Rattle.fac_standing.proofs.StandingArrays as lemma
use Rattle.fac_standing.proofs.laws.images_go_on.Goals as goal

pub returns : goal.returns
returns c = lemma.images_go_on
