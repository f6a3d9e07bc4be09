use Rattle.fac_standing.proofs.StandingViews as lemma
use Rattle.fac_standing.proofs.laws.worlds_stay_the_same.Goals as goal

pub returns : goal.returns
returns c = lemma.worlds_same
