use Rattle.std.proofs.Common.{ℕ, subst}
use Rattle.fac_gen.specs.Generated.{generated}
use Rattle.fac_tool.specs.Answer.{summary_behind}
use Rattle.fac_tool.specs.Answers.{ReachesBy}
use Rattle.fac_tool.specs.Plans.{on_text, running_then, summing_up}
use Rattle.fac_tool.specs.SeenObjects.{input_seen, output_seen}
use Rattle.fac_tool.specs.inner.StepEnds.{ended_by, still_files}
use Rattle.fac_tool.proofs.Composing.{reaches_made, reaches_unmade}
use Rattle.fac_tool.proofs.work.generate_steps.Goals as goal

pub returns-in-Err-clause-ending : goal.returns-in-Err-clause-ending
returns-in-Err-clause-ending g c =
    let text = generated c.args.seed c.args.words in
    λ files. reaches_unmade text (summing_up c.args.words text c.args.budget) files c.args.channels.now c.bare.result c.bare.ensures

pub returns-in-Ok-clause-ending : goal.returns-in-Ok-clause-ending
returns-in-Ok-clause-ending g c =
    let text = generated c.args.seed c.args.words in
    let drawn = c.in-Ok.field-0 in
    let then = c.do_on_texts in
    let seen = input_seen c.args.channels.now then.new.channels in
    let out = output_seen c.args.channels.now then.new.channels in
    λ files. subst (λ (n : ℕ). ReachesBy (on_text text (running_then (summary_behind c.args.words n) c.args.budget)) (still_files files) seen out (ended_by then.result)) c.in-Ok.ensures.bytes
    (reaches_made text (running_then (summary_behind c.args.words drawn.bytes) c.args.budget) drawn.texts files seen out (ended_by then.result) c.in-Ok.ensures.texts then.ensures.does)
