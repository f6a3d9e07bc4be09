use Rattle.fac_tool.proofs.BuiltRuns.{exec_runs}
use Rattle.fac_tool.proofs.laws.exec_after_build_is_run.Goals as goal

pub returns : goal.returns
returns c = exec_runs c.saved_code_runs_as_its_source.ensures
