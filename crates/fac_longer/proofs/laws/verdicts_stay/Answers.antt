use Rattle.fac_longer.proofs.StayingVerdicts as lemma
use Rattle.fac_longer.proofs.laws.verdicts_stay.Goals as goal

pub returns : goal.returns
returns c = lemma.verdicts_stay
