use Rattle.std.proofs.Common.{List, ℕ}
use Rattle.fac_tool.specs.Answer.{run_answer, written_answer}
use Rattle.fac_tool.specs.Ends.{ending_of, runs_and_writes}
use Rattle.fac_tool.specs.SeenObjects.{input_seen, output_seen}
use Rattle.fac_tool.specs.inner.WrittenBehind.{behind_seen}
use Rattle.fac_tool.proofs.EarlyEnds.{no_memory_before_run}
use Rattle.fac_tool.proofs.InputLemmas.{onward, on_still, still_unread}
use Rattle.fac_tool.proofs.BehindLemmas.{writes_on, has_stack}
use Rattle.fac_tool.proofs.CountLemmas.{written_counts}
use Rattle.fac_tool.proofs.program_run.run_and_write.Goals as goal

pub returns-in-Ok-clause-ends : goal.returns-in-Ok-clause-ends
returns-in-Ok-clause-ends g c =
    let ran = c.run_carried-ended in
    let written = c.write_behind in
    writes_on (behind_seen c.args.behind) c.args.checked.closed c.args.budget c.args.channels.now ran.new.channels written.new.channels ran.result written.result written.ensures.unread ran.ensures.counts.output.later
    (onward (λ input left h P stands. h P (c.in-Ok.ensures.1 P stands)) ran.ensures.ends) written.ensures.writes

pub returns-in-Err-clause-ends : goal.returns-in-Err-clause-ends
returns-in-Err-clause-ends g c =
    let behind = behind_seen c.args.behind in
    on_still c.args.channels.now (λ input P stands.
    no_memory_before_run (λ (bytes : List ℕ). written_answer behind P bytes c.args.budget) (λ (bytes : List ℕ). runs_and_writes behind P bytes c.args.budget) _ _ _ c.bare.result input c.bare.ensures (still_unread c.args.channels.now) tt)

pub returns-in-Ok-clause-counts : goal.returns-in-Ok-clause-counts
returns-in-Ok-clause-counts g c =
    let ran = c.run_carried-ended in
    let written = c.write_behind in
    let P = c.requires.0 in
    let on = ran.ensures.ends in
    let run = on.holds P (c.in-Ok.ensures.1 P c.requires.1) in
    written_counts (behind_seen c.args.behind) c.args.channels.now ran.new.channels written.new.channels ran.result written.result
    (λ texts is. (has_stack P on.input c.args.budget (run_answer P on.input c.args.budget) (output_seen c.args.channels.now ran.new.channels) (input_seen c.args.channels.now ran.new.channels) on.left ran.result texts (ending_of ran.result.status) is run.ends).0)
    written.ensures.unread ran.ensures.counts written.ensures.counts written.ensures.writes
