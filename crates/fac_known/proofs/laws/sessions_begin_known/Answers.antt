use Rattle.fac_known.proofs.KnownBehind as lemma
use Rattle.fac_known.proofs.laws.sessions_begin_known.Goals as goal

pub returns : goal.returns
returns c = lemma.sessions_begin_known
