use Rattle.fac_known.proofs.Growing as lemma
use Rattle.fac_known.proofs.laws.forms_keep_numbers.Goals as goal

pub returns : goal.returns
returns c = lemma.forms_grow
