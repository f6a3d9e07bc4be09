use Rattle.fac_tool.specs.inner.Tasks.{task_seen}
use Rattle.fac_tool.proofs.Composing.{does_early, does_end}
use Rattle.fac_tool.proofs.work.do_on_texts.Goals as goal

pub returns-in_err-accepted-clause-does : goal.returns-in_err-accepted-clause-does
returns-in_err-accepted-clause-does g c =
    does_early c.accepted_programs_are_safe.ensures c.resolved_programs_are_whole.ensures (task_seen c.args.task) c.args.texts c.args.channels.now c.from_residual.result _ c.from_residual.ensures.1 c.in_err-accepted.ensures

pub returns-clause-does : goal.returns-clause-does
returns-clause-does g c =
    does_end c.accepted_programs_are_safe.ensures c.resolved_programs_are_whole.ensures (task_seen c.args.task) c.args.texts c.args.channels.now c.carry_out.new.channels c.in_ok-accepted.accepted c.carry_out.result c.in_ok-accepted.ensures c.carry_out.ensures.ends
