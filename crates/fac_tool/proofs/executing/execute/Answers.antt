use Rattle.fac_io.specs.Told.{TookNothing-same}
use Rattle.fac_tool.specs.Executed.{not_decoded, decoded}
use Rattle.fac_tool.proofs.InputLemmas.{onward, still_unread}
use Rattle.fac_tool.proofs.executing.execute.Goals as goal

pub returns-in-Ok-clause-ends : goal.returns-in-Ok-clause-ends
returns-in-Ok-clause-ends g c = decoded c.in-Ok.machine.image c.in-Ok.ensures.spelled (onward (λ input left h. h.ends) c.run_image.ensures.ends)

pub returns-in-Err-clause-ends : goal.returns-in-Err-clause-ends
returns-in-Err-clause-ends g c = not_decoded (record { why = c.in-Err.ensures; out_is = TookNothing-same _ }) (still_unread c.args.channels.now)
