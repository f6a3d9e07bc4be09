use Rattle.fac_session.proofs.KnownLines as lemma
use Rattle.fac_session.proofs.laws.lines_go_on.Goals as goal

pub returns : goal.returns
returns c = lemma.lines_go_on
