use Rattle.fac_meanings.proofs.AcceptedLemmas as lemma
use Rattle.fac_meanings.proofs.laws.programs_run_their_forms.Goals as goal

pub returns : goal.returns
returns c = lemma.programs_run
