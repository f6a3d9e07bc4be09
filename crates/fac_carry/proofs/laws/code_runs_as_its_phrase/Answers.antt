use Rattle.fac_carry.proofs.CodeRuns.{code_runs}
use Rattle.fac_carry.proofs.laws.code_runs_as_its_phrase.Goals as goal

pub returns : goal.returns
returns c = code_runs
