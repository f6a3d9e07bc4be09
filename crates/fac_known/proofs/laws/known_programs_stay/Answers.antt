use Rattle.fac_known.proofs.LongerPrograms as lemma
use Rattle.fac_known.proofs.laws.known_programs_stay.Goals as goal

pub returns : goal.returns
returns c = lemma.known_stays
