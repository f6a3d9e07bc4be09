use Rattle.fac_session.proofs.LineLemmas as lemma
use Rattle.fac_session.proofs.laws.lines_keep_what_stands.Goals as goal

pub returns : goal.returns
returns c = lemma.lines_keep
