use Rattle.fac_meanings.proofs.FoundNames as lemma
use Rattle.fac_meanings.proofs.laws.names_keep_words.Goals as goal

pub returns : goal.returns
returns c = lemma.names_keep_words
