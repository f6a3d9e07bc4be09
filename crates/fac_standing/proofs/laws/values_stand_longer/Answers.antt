use Rattle.fac_standing.proofs.StandingViews as lemma
use Rattle.fac_standing.proofs.laws.values_stand_longer.Goals as goal

pub returns : goal.returns
returns c = lemma.values_stand
