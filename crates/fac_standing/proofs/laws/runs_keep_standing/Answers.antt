use Rattle.fac_standing.proofs.StandingRuns as lemma
use Rattle.fac_standing.proofs.laws.runs_keep_standing.Goals as goal

pub returns : goal.returns
returns c = lemma.runs_keep
