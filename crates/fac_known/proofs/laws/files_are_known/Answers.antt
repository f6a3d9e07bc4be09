use Rattle.fac_known.proofs.KnownBehind as lemma
use Rattle.fac_known.proofs.laws.files_are_known.Goals as goal

pub returns : goal.returns
returns c = lemma.files_are_known
