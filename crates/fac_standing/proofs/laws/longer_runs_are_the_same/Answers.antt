use Rattle.fac_standing.proofs.LongerRuns as lemma
use Rattle.fac_standing.proofs.laws.longer_runs_are_the_same.Goals as goal

pub returns : goal.returns
returns c = lemma.longer_runs
