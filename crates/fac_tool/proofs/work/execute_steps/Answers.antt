use Rattle.std.proofs.Common.{refl}
use Rattle.fac_tool.specs.Executed.{executed}
use Rattle.fac_tool.specs.Plans.{on_image}
use Rattle.fac_tool.proofs.Composing.{reaches_no_texts, reaches_image}
use Rattle.fac_tool.proofs.work.execute_steps.Goals as goal

pub returns-in_err-bytes-clause-ending : goal.returns-in_err-bytes-clause-ending
returns-in_err-bytes-clause-ending g c =
    reaches_no_texts (on_image c.args.name.now (executed c.args.budget)) _ c.args.channels.now c.from_residual.result _ c.from_residual.ensures.1 c.in_err-bytes.ensures.loads

pub returns-clause-ending : goal.returns-clause-ending
returns-clause-ending g c =
    reaches_image c.args.name.now (executed c.args.budget) _ c.in_ok-bytes.bytes c.in_ok-bytes.bytes _ _ c.execute.result refl c.in_ok-bytes.ensures.loads c.execute.ensures.ends
