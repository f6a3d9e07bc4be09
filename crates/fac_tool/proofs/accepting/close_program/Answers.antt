use Rattle.fac_tool.proofs.EarlyEnds.{no_memory}
use Rattle.fac_tool.proofs.accepting.close_program.Goals as goal

pub returns-in-Err : goal.returns-in-Err
returns-in-Err c = λ answer. no_memory answer _ c.bare.ensures
