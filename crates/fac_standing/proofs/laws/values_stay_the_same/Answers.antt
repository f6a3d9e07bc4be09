use Rattle.fac_standing.proofs.StandingViews as lemma
use Rattle.fac_standing.proofs.laws.values_stay_the_same.Goals as goal

pub returns : goal.returns
returns c = lemma.values_same
