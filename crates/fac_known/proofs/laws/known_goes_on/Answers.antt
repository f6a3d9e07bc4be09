use Rattle.fac_known.proofs.KnownBehind as lemma
use Rattle.fac_known.proofs.laws.known_goes_on.Goals as goal

pub returns : goal.returns
returns c = lemma.known_goes_on
