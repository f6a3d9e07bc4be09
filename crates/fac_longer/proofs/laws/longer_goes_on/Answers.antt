use Rattle.fac_longer.proofs.LongerPrograms as lemma
use Rattle.fac_longer.proofs.laws.longer_goes_on.Goals as goal

pub returns : goal.returns
returns c = lemma.goes_on
