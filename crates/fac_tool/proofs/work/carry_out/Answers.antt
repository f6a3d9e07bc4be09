use Rattle.std.proofs.Common.{sym, subst}
use Rattle.fac_tool.specs.declared.work.Task.{Task}
use Rattle.fac_tool.specs.SeenObjects.{input_seen}
use Rattle.fac_tool.specs.inner.StepEnds.{StepsEnd}
use Rattle.fac_tool.specs.inner.Tasks.{task_seen}
use Rattle.fac_tool.proofs.InputLemmas.{on_unread, input_unread}
use Rattle.fac_tool.proofs.work.carry_out.Goals as goal

pub returns-in-Check-clause-ends : goal.returns-in-Check-clause-ends
returns-in-Check-clause-ends g c =
    let old = c.args.channels.now in
    let new = c.tell_checked.new.channels in
    let seen = input_seen old new in
    let unread = input_unread old new c.tell_checked.ensures.unread in
    on_unread seen unread (λ input P stands. rw c.in-Check.is (record { ends = c.tell_checked.ensures.ends input seen; unread = unread }))

pub returns-in-Run-clause-ends : goal.returns-in-Run-clause-ends
returns-in-Run-clause-ends g c =
    let accepted = c.args.accepted in
    subst (λ (x : Task). StepsEnd accepted.checked.closed ((task_seen x).answer accepted.definitions) (task_seen x).work c.args.channels.now c.run_program.new.channels c.run_program.result) (sym c.in-Run.is) c.run_program.ensures.ends

pub returns-in-RunThen-clause-ends : goal.returns-in-RunThen-clause-ends
returns-in-RunThen-clause-ends g c =
    let accepted = c.args.accepted in
    subst (λ (x : Task). StepsEnd accepted.checked.closed ((task_seen x).answer accepted.definitions) (task_seen x).work c.args.channels.now c.run_and_write.new.channels c.run_and_write.result) (sym c.in-RunThen.is) c.run_and_write.ensures.ends
