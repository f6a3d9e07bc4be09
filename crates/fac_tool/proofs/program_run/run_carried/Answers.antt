use Rattle.fac_tool.specs.SeenObjects.{output_seen, input_seen}
use Rattle.fac_tool.proofs.CarriedRuns.{runs_as_program}
use Rattle.fac_tool.proofs.InputLemmas.{onward}
use Rattle.fac_tool.proofs.program_run.run_carried.Goals as goal

pub returns-clause-ends : goal.returns-clause-ends
returns-clause-ends g c =
    let one_end = c.runs_have_one_end.ensures in
    let law = c.printed_forms_are_equal.ensures in
    let seen = input_seen c.args.channels.now c.run_image.new.channels in
    let out = output_seen c.args.channels.now c.run_image.new.channels in
    onward (λ input left h P carries. runs_as_program one_end law P c.args.machine.now.image carries c.args.budget seen out input left c.run_image.result h) c.run_image.ensures.ends
