use Rattle.fac_meanings.proofs.SignLemmas as lemma
use Rattle.fac_meanings.proofs.laws.phrases_are_written_as_items.Goals as goal

pub returns : goal.returns
returns c = lemma.phrases_are_written
