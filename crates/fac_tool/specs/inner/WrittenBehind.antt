-- Inner contracts: something is written behind a run.
use Rattle.std.specs.Prelude.{◌≡◌, ◌⊎◌, List, ℕ, None, Some}
use Rattle.std.specs.declared.option.Option.{Option}
use Rattle.fac_notes.specs.declared.status.TheConstants.{NO_MEMORY}
use Rattle.fac_tool.specs.declared.behind.Behind.{Behind as BehindRead}
use Rattle.fac_tool.specs.declared.behind.Behind.TheVariants as read
use Rattle.fac_tool.specs.declared.ended.Ended.{Ended}
use Rattle.fac_tool.specs.Answer.{Behind, stack_behind, summary_behind}
use Rattle.fac_tool.specs.SeenObjects.{SinkSeen}
use Rattle.fac_tool.specs.Answers.{TellsBy}
use Rattle.fac_tool.specs.inner.StepEnds.{bare, still}

-- what is written behind a run, as the code has it
abbrev pub behind_seen : BehindRead → Behind
behind_seen read.Stack = stack_behind
behind_seen (read.Summary words bytes) = summary_behind words bytes

-- nothing was written
abbrev pub IsStill : SinkSeen → Type 0
IsStill out = out ≡ still out.before out.faults_before

-- Without a stack the ending stays as it is. What is written behind a run that has one is written as a note is, or there is no memory for it.
abbrev pub WritesBy : Behind → Option (List (List ℕ)) → Ended → SinkSeen → Ended → Type 0
WritesBy behind None reached out ended = IsStill out × (ended ≡ reached)
WritesBy behind (Some texts) reached out ended = (IsStill out × (ended ≡ bare NO_MEMORY reached.ticks)) ⊎ TellsBy (behind reached.ticks texts) reached out ended

abbrev pub WritesBehind : Behind → Ended → SinkSeen → Ended → Type 0
WritesBehind behind reached out ended = WritesBy behind reached.stack reached out ended
