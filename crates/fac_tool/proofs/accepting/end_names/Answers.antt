use Rattle.fac_names.specs.Resolution.{resolved}
use Rattle.fac_tool.specs.Answer.{on_resolved, own_definitions}
use Rattle.fac_tool.proofs.Composing.{ends_on_name}
use Rattle.fac_tool.proofs.EarlyEnds.{no_memory}
use Rattle.fac_tool.proofs.accepting.end_names.Goals as goal

pub returns-in-Err-Memory : goal.returns-in-Err-Memory
returns-in-Err-Memory c = λ files fit taken on. no_memory (on_resolved on (own_definitions files) (resolved files)) _ c.bare.ensures

pub returns-in-Err-Name : goal.returns-in-Err-Name
returns-in-Err-Name c = λ files fit taken on. ends_on_name on files c.in-Err-Name.fault _ (rw c.in-Err-Name.field-0-is at (c.in-Err-Name.ensures.program files fit taken)) c.reported.ensures
