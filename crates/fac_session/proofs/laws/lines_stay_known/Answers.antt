use Rattle.fac_session.proofs.KnownLines as lemma
use Rattle.fac_session.proofs.laws.lines_stay_known.Goals as goal

pub returns : goal.returns
returns c = lemma.lines_stay_known
