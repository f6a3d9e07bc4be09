use Rattle.fac_meanings.proofs.FoundNames as lemma
use Rattle.fac_meanings.proofs.laws.forms_define_names.Goals as goal

pub returns : goal.returns
returns c = lemma.forms_define
