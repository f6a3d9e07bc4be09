use Rattle.fac_meanings.proofs.StandingLemmas as lemma
use Rattle.fac_meanings.proofs.laws.items_mean_as_they_stand.Goals as goal

pub returns : goal.returns
returns c = lemma.items_stand
