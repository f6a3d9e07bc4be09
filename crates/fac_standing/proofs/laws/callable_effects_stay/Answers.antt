use Rattle.fac_standing.proofs.StayingEffects as lemma
use Rattle.fac_standing.proofs.laws.callable_effects_stay.Goals as goal

pub returns : goal.returns
returns c = lemma.callable_effects_stay
