use Rattle.fac_known.proofs.KeptPhrases as lemma
use Rattle.fac_known.proofs.laws.programs_keep_phrases.Goals as goal

pub returns : goal.returns
returns c = lemma.programs_keep
