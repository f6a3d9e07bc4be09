use Rattle.std.proofs.Common.{List, ℕ}
use Rattle.fac_tool.specs.Answer.{run_answer}
use Rattle.fac_tool.specs.Ends.{runs}
use Rattle.fac_tool.proofs.EarlyEnds.{no_memory_before_run}
use Rattle.fac_tool.proofs.InputLemmas.{onward, on_still, still_unread}
use Rattle.fac_tool.proofs.program_run.run_program.Goals as goal

pub returns-in-Ok-clause-ends : goal.returns-in-Ok-clause-ends
returns-in-Ok-clause-ends g c =
    onward (λ input left h P stands. let run = h P (c.in-Ok.ensures.1 P stands) in record { ends = run.ends; unread = tt }) c.run_carried.ensures.ends

pub returns-in-Err-clause-ends : goal.returns-in-Err-clause-ends
returns-in-Err-clause-ends g c =
    on_still c.args.channels.now (λ input P stands.
    no_memory_before_run (λ (bytes : List ℕ). run_answer P bytes c.args.budget) (λ (bytes : List ℕ). runs P bytes c.args.budget) _ _ _ c.bare.result input c.bare.ensures (still_unread c.args.channels.now) tt)
