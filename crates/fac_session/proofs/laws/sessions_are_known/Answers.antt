use Rattle.fac_session.proofs.KnownLines as lemma
use Rattle.fac_session.proofs.laws.sessions_are_known.Goals as goal

pub returns : goal.returns
returns c = lemma.sessions_are_known
