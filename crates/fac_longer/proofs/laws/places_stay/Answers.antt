use Rattle.fac_longer.proofs.StayingLiterals as lemma
use Rattle.fac_longer.proofs.laws.places_stay.Goals as goal

pub returns : goal.returns
returns c = lemma.places_are
