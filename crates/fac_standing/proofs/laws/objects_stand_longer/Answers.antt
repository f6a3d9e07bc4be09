use Rattle.fac_standing.proofs.StandingViews as lemma
use Rattle.fac_standing.proofs.laws.objects_stand_longer.Goals as goal

pub returns : goal.returns
returns c = lemma.objects_stand
