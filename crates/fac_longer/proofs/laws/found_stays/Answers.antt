use Rattle.fac_longer.proofs.Staying as lemma
use Rattle.fac_longer.proofs.laws.found_stays.Goals as goal

pub returns : goal.returns
returns c = lemma.found_stays
