use Rattle.fac_vm.specs.SeenMachine.{callables_in, held_in}
use Rattle.fac_tool.specs.SeenObjects.{output_seen}
use Rattle.fac_tool.proofs.InputLemmas.{onward, on_channels}
use Rattle.fac_tool.proofs.ExecutedLemmas.{runs_first}
use Rattle.fac_tool.proofs.executing.run_first.Goals as goal

pub returns-clause-runs : goal.returns-clause-runs
returns-clause-runs g c =
    let run = c.run-stop in
    let old = c.args.channels.now in
    let new = run.new.channels in
    onward (λ input left h. runs_first c.args.machine.now c.args.budget (callables_in run.new.self) (held_in run.new.self) run.result.ticks (output_seen old new) run.result.what input left c.requires run.ensures.within h)
    (on_channels old new c.nothing_is_behind_the_end.ensures run.ensures.runs)
