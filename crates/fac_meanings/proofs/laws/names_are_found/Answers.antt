use Rattle.fac_meanings.proofs.FoundNames as lemma
use Rattle.fac_meanings.proofs.laws.names_are_found.Goals as goal

pub returns : goal.returns
returns c = lemma.names_are_found
