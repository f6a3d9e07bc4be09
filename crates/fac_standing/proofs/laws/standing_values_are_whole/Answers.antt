use Rattle.fac_standing.proofs.StandingViews as lemma
use Rattle.fac_standing.proofs.laws.standing_values_are_whole.Goals as goal

pub returns : goal.returns
returns c = lemma.values_whole
