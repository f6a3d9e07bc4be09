use Rattle.fac_names.proofs.BuiltPrograms as lemma
use Rattle.fac_names.proofs.laws.resolved_programs_are_whole.Goals as goal

pub returns : goal.returns
returns c = lemma.resolved_are_whole
