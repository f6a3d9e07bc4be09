use Rattle.fac_tool.specs.SeenObjects.{output_seen, input_seen}
use Rattle.fac_tool.proofs.InputLemmas.{onward}
use Rattle.fac_tool.proofs.ExecutedLemmas.{done_on, failed_execution, spent_execution, trap_execution, input_fault_execution, write_fault_execution, memory_execution, no_stack_texts, no_report}
use Rattle.fac_vm.specs.declared.machine.StopKind.TheVariants as stop
use Rattle.fac_tool.proofs.CountLemmas.{other_counts, input_counts, output_counts}
use Rattle.fac_tool.proofs.executing.run_image.Goals as goal

pub returns-in-Ok-clause-ends : goal.returns-in-Ok-clause-ends
returns-in-Ok-clause-ends g c =
    let stop = c.run_first-stop in
    let image = c.args.machine.now.image in
    let seen = input_seen c.args.channels.now stop.new.channels in
    let out = output_seen c.args.channels.now stop.new.channels in
    done_on image stop.new.machine c.args.budget stop.result.ticks seen out c.in-Ok.texts stop.result.what stop.ensures.image c.in-Ok.ensures c.in-Done.is stop.ensures.runs

pub returns-in-Err-clause-ends : goal.returns-in-Err-clause-ends
returns-in-Err-clause-ends g c =
    let stop = c.run_first-stop in
    onward (λ input left h. no_stack_texts _ stop.new.machine c.args.budget stop.result.ticks _ _ input left stop.result.what _ c.in-Done.is c.bare.ensures h) stop.ensures.runs

pub returns-in-Ok-error_report-clause-ends : goal.returns-in-Ok-error_report-clause-ends
returns-in-Ok-error_report-clause-ends g c =
    let stop = c.run_first-stop in
    onward (λ input left h.
    failed_execution _ stop.new.machine c.args.budget stop.result.ticks _ _ input left c.in-Failed.error c.in-Ok-error_report.report stop.result.what _ stop.ensures.image c.in-Ok-error_report.ensures c.in-Failed.is c.reported.ensures h)
    stop.ensures.runs

pub returns-in-Err-error_report-clause-ends : goal.returns-in-Err-error_report-clause-ends
returns-in-Err-error_report-clause-ends g c =
    let stop = c.run_first-stop in
    onward (λ input left h. no_report _ stop.new.machine c.args.budget stop.result.ticks _ _ input left c.in-Failed.error stop.result.what _ c.in-Failed.is c.bare-in-Err-error_report.ensures h) stop.ensures.runs

pub returns-in-Spent-clause-ends : goal.returns-in-Spent-clause-ends
returns-in-Spent-clause-ends g c =
    let stop = c.run_first-stop in
    onward (λ input left h. spent_execution _ stop.new.machine c.args.budget stop.result.ticks _ _ input left stop.result.what _ c.in-Spent.is c.reported-in-Spent.ensures h) stop.ensures.runs

pub returns-in-Trap-clause-ends : goal.returns-in-Trap-clause-ends
returns-in-Trap-clause-ends g c =
    let stop = c.run_first-stop in
    onward (λ input left h. trap_execution _ stop.new.machine c.args.budget stop.result.ticks _ _ input left c.in-Trap.pc c.in-Trap.why stop.result.what _ c.in-Trap.is c.reported-in-Trap.ensures h) stop.ensures.runs

pub returns-in-InputFault-clause-ends : goal.returns-in-InputFault-clause-ends
returns-in-InputFault-clause-ends g c =
    let stop = c.run_first-stop in
    let rose = stop.ensures.faults.input.cause c.in-InputFault.is in
    onward (λ input left h. input_fault_execution _ stop.new.machine c.args.budget stop.result.ticks _ _ input left stop.result.what _ c.in-InputFault.is rose c.bare-in-InputFault.ensures h) stop.ensures.runs

pub returns-in-WriteFault-clause-ends : goal.returns-in-WriteFault-clause-ends
returns-in-WriteFault-clause-ends g c =
    let stop = c.run_first-stop in
    let rose = stop.ensures.faults.output.cause c.in-WriteFault.is in
    onward (λ input left h. write_fault_execution _ stop.new.machine c.args.budget stop.result.ticks _ _ input left stop.result.what _ c.in-WriteFault.is rose c.bare-in-WriteFault.ensures h) stop.ensures.runs

pub returns-in-Memory-clause-ends : goal.returns-in-Memory-clause-ends
returns-in-Memory-clause-ends g c =
    let stop = c.run_first-stop in
    onward (λ input left h. memory_execution _ stop.new.machine c.args.budget stop.result.ticks _ _ input left stop.result.what _ c.in-Memory.is c.bare-in-Memory.ensures h) stop.ensures.runs

pub returns-in-Ok-clause-counts : goal.returns-in-Ok-clause-counts
returns-in-Ok-clause-counts g c = other_counts _ _ c.run_first-stop.result.what (stop.Done) _ c.in-Done.is tt c.run_first-stop.ensures.faults

pub returns-in-Err-clause-counts : goal.returns-in-Err-clause-counts
returns-in-Err-clause-counts g c = other_counts _ _ c.run_first-stop.result.what (stop.Done) _ c.in-Done.is tt c.run_first-stop.ensures.faults

pub returns-in-Ok-error_report-clause-counts : goal.returns-in-Ok-error_report-clause-counts
returns-in-Ok-error_report-clause-counts g c = other_counts _ _ c.run_first-stop.result.what (stop.Failed c.in-Failed.error) _ c.in-Failed.is tt c.run_first-stop.ensures.faults

pub returns-in-Err-error_report-clause-counts : goal.returns-in-Err-error_report-clause-counts
returns-in-Err-error_report-clause-counts g c = other_counts _ _ c.run_first-stop.result.what (stop.Failed c.in-Failed.error) _ c.in-Failed.is tt c.run_first-stop.ensures.faults

pub returns-in-Spent-clause-counts : goal.returns-in-Spent-clause-counts
returns-in-Spent-clause-counts g c = other_counts _ _ c.run_first-stop.result.what (stop.Spent) _ c.in-Spent.is tt c.run_first-stop.ensures.faults

pub returns-in-Trap-clause-counts : goal.returns-in-Trap-clause-counts
returns-in-Trap-clause-counts g c = other_counts _ _ c.run_first-stop.result.what (stop.Trap c.in-Trap.pc c.in-Trap.why) _ c.in-Trap.is tt c.run_first-stop.ensures.faults

pub returns-in-Memory-clause-counts : goal.returns-in-Memory-clause-counts
returns-in-Memory-clause-counts g c = other_counts _ _ c.run_first-stop.result.what (stop.Memory) _ c.in-Memory.is tt c.run_first-stop.ensures.faults

pub returns-in-InputFault-clause-counts : goal.returns-in-InputFault-clause-counts
returns-in-InputFault-clause-counts g c = input_counts _ _ c.run_first-stop.result.what _ c.run_first-stop.result.ticks c.in-InputFault.is c.bare-in-InputFault.ensures c.run_first-stop.ensures.faults

pub returns-in-WriteFault-clause-counts : goal.returns-in-WriteFault-clause-counts
returns-in-WriteFault-clause-counts g c = output_counts _ _ c.run_first-stop.result.what _ c.run_first-stop.result.ticks c.in-WriteFault.is c.bare-in-WriteFault.ensures c.run_first-stop.ensures.faults
