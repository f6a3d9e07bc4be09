use Rattle.fac_meanings.proofs.MeaningLemmas as lemma
use Rattle.fac_meanings.proofs.laws.forms_mean_what_is_bound_or_found.Goals as goal

pub returns : goal.returns
returns c = lemma.forms_are_meant
