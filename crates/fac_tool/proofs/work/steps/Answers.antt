use Rattle.fac_tool.specs.Plans.{on_sources}
use Rattle.fac_tool.specs.inner.Tasks.{task_seen}
use Rattle.fac_tool.proofs.Composing.{reaches_no_texts, reaches_texts}
use Rattle.fac_tool.proofs.work.steps.Goals as goal

pub returns-in_err-texts-clause-ending : goal.returns-in_err-texts-clause-ending
returns-in_err-texts-clause-ending g c =
    reaches_no_texts (on_sources _ (task_seen c.args.task)) _ c.args.channels.now c.from_residual.result _ c.from_residual.ensures.1 c.in_err-texts.ensures.loads

pub returns-clause-ending : goal.returns-clause-ending
returns-clause-ending g c = reaches_texts _ (task_seen c.args.task) _ c.in_ok-texts.texts _ _ _ c.in_ok-texts.ensures.loads c.do_on_texts.ensures.does
