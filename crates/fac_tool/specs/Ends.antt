-- How the work of a command ends, before its note is written.
use Rattle.std.specs.Prelude.{◌≡◌, ◌==◌, ◌≤◌, ℕ, zero, suc, None, Some, if◌then◌else◌, List, [], ◌++◌, drop, take, length, map, reverse, ◌<◌, ◌-◌, ◌⊎◌}
use Rattle.std.specs.declared.option.Option.{Option}
use Rattle.std.specs.List.{concat}
use Rattle.fac_io.specs.Faults.{Rose}
use Rattle.fac_io.specs.Told.{Grows, GrowsByPrefix, one_piece, TookNothing, TookFront}
use Rattle.fac_lang.specs.declared.program.Program.{Program}
use Rattle.fac_lang.specs.Phrases.{Item, Value}
use Rattle.fac_lang.specs.World.{State}
use Rattle.fac_lang.specs.Eval.{Result as Run, Done, Failed, Spent, Stuck}
use Rattle.fac_vm.specs.Runs.{GrowsBeyond}
use Rattle.fac_notes.specs.declared.status.TheConstants.{NO_COMMAND, FILE_FAULT, INPUT_FAULT, WRITE_FAULT, TOO_LONG, NO_MEMORY}
use Rattle.fac_tool.specs.declared.ended.Ended.{Ended}
use Rattle.fac_notes.specs.Told.{shown}
use Rattle.fac_tool.specs.Answer.{Answer, Behind, meaning, run_answer, lines_if}
use Rattle.fac_tool.specs.SeenObjects.{SinkSeen, InputSeen, IsUnread}

-- the kinds of statuses: an answer of the definition, or one that the outside or want of memory brings
pub data Ending : Type 0 where
  Told : Ending
  Usage : Ending
  FileFault : Ending
  InputFault : Ending
  WriteFault : Ending
  TooLong : Ending
  NoMemory : Ending

abbrev pub ending_of : ℕ → Ending
ending_of status = (if status == NO_COMMAND then Usage else if status == FILE_FAULT then FileFault else if status == INPUT_FAULT then InputFault else if status == WRITE_FAULT then WriteFault else if status == TOO_LONG then TooLong else if status == NO_MEMORY then NoMemory else Told)

-- What a command does with the accepted program of its texts: it runs nothing, or runs it on this input with this budget, or runs it and then writes this behind
-- the run.
pub data Work : Type 0 where
  idle : Work
  runs : Program → List ℕ → ℕ → Work
  runs_and_writes : Behind → Program → List ℕ → ℕ → Work

-- where there is none nothing is run
abbrev pub work_of : (Program → List ℕ → Work) → Option Program → List ℕ → Work
work_of on None input = idle
work_of on (Some P) input = on P input

-- the call's result and output are the answer's, and so is what is left of the input
pub record Matches (answer : Answer) (out : SinkSeen) (left : List ℕ) (ended : Ended) : Type 0 where
  pub status : ended.status ≡ answer.status
  pub ticks : ended.ticks ≡ answer.ticks
  pub stack : ended.stack ≡ answer.stack
  pub refusal : ended.refusal ≡ answer.refusal
  pub output : Grows out.before.taken out.now.taken answer.output
  pub rest : left ≡ answer.left

-- what a run wrote so far
abbrev pub run_output : Run → List ℕ
run_output (Done st left) = st.world.output
run_output (Failed e st left) = st.world.output
run_output (Spent st i) = st.world.output
run_output Stuck = []

-- how many lines it asked for so far, and what it left of its input
abbrev pub run_asked : Run → ℕ
run_asked (Done st left) = st.world.asked
run_asked (Failed e st left) = st.world.asked
run_asked (Spent st i) = st.world.asked
run_asked Stuck = 0

abbrev pub run_left : Run → List ℕ
run_left (Done st left) = st.world.input
run_left (Failed e st left) = st.world.input
run_left (Spent st i) = st.world.input
run_left Stuck = []

-- the bytes that a run on this input writes in its tick of this number, which is that of one item
abbrev pub tick_output : Program → List ℕ → ℕ → List ℕ
tick_output P input zero = []
tick_output P input (suc n) = drop (length (run_output (meaning P input n))) (run_output (meaning P input (suc n)))

-- the pieces that it writes in so many ticks: one for each item that writes, whole
abbrev pub pieces_in : Program → List ℕ → ℕ → List (List ℕ)
pieces_in P input zero = []
pieces_in P input (suc n) = pieces_in P input n ++ one_piece (tick_output P input (suc n))

-- What was taken of the output of a run that used so many ticks was taken in the pieces of its items that wrote, one for each and whole.
-- Behind them comes `last`, in one piece.
pub record RunPieces (P : Program) (input : List ℕ) (ticks : ℕ) (last : List ℕ) (out : SinkSeen) : Type 0 where
  pub wrote_in : ℕ
  pub within : wrote_in ≤ ticks
  pub taken : Grows out.before.taken out.now.taken (concat (pieces_in P input wrote_in) ++ last)
  pub pieces : Grows out.before.pieces out.now.pieces (pieces_in P input wrote_in ++ one_piece last)

-- Likewise where the last write failed: behind the pieces that were taken whole comes a front of the next one, that of the last item that writes in
-- these ticks, which isn't empty.
pub record RunFront (P : Program) (input : List ℕ) (ticks : ℕ) (out : SinkSeen) : Type 0 where
  pub last : List ℕ
  pub taken : RunPieces P input ticks last out
  pub piece : List ℕ
  pub some : 0 < length piece
  pub next : pieces_in P input ticks ≡ pieces_in P input taken.wrote_in ++ one_piece piece
  pub count : ℕ
  pub front : last ≡ take count piece

-- How far a run with a budget came that used so many ticks, however it ended. With one tick less the meaning is spent, and what it
-- wrote till then was taken. Of what it writes in these ticks a prefix was taken.
pub record StopsWithin (P : Program) (input : List ℕ) (budget : ℕ) (ticks : ℕ) (out : SinkSeen) : Type 0 where
  pub within : ticks ≤ budget
  pub spent_before : 0 < ticks → (st : State Value) × (i : Option Item) × (meaning P input (ticks - 1) ≡ Spent st i) × GrowsBeyond out.before.taken out.now.taken st.world.output
  pub at_most : GrowsByPrefix out.before.taken out.now.taken (run_output (meaning P input ticks))

-- in which pieces the output was taken: outside a run in one write of the whole, and what is written behind a run in one write
abbrev pub OutputWhole : Work → Answer → ℕ → SinkSeen → Type 0
OutputWhole idle answer ticks out = Grows out.before.pieces out.now.pieces (one_piece answer.output)
OutputWhole (runs P input budget) answer ticks out = RunPieces P input ticks [] out
OutputWhole (runs_and_writes behind P input budget) answer ticks out = RunPieces P input ticks (lines_if behind answer.ticks answer.stack) out

-- Something is so of what a run came to in so many ticks, or with one tick less: what is wanted for an item is wanted when its tick is taken.
abbrev pub ThenOrBefore : Program → List ℕ → ℕ → (Run → Type 0) → Type 0
ThenOrBefore P input ticks Holds = Holds (meaning P input ticks) ⊎ ((0 < ticks) × Holds (meaning P input (ticks - 1)))

-- Memory was wanted before a run was begun: nothing was read and nothing was written.
pub record WantedBefore (ticks : ℕ) (seen : InputSeen) (out : SinkSeen) : Type 0 where
  pub none : ticks ≡ 0
  pub unread : IsUnread seen
  pub out_is : TookNothing out.before out.now

-- or in it, at an item: all that it had written before the item was taken, and no more. This is left of its input, where a line may be gone for which the item asks.
pub record WantedInRun (P : Program) (input left : List ℕ) (ticks : ℕ) (out : SinkSeen) : Type 0 where
  pub output : ThenOrBefore P input ticks (λ r. Grows out.before.taken out.now.taken (run_output r))
  pub rest : ThenOrBefore P input ticks (λ r. left ≡ run_left r)

-- or behind it, for what is told of the run, which had ended with this answer
pub record WantedBehind (answer : Answer) (left : List ℕ) (ticks : ℕ) (out : SinkSeen) : Type 0 where
  pub used : ticks ≡ answer.ticks
  pub output : Grows out.before.taken out.now.taken answer.output
  pub rest : left ≡ answer.left

-- The ticks of a run in which memory was wanted, or before or behind which it was, what the output had taken, which is that of the run alone, and what is left of
-- the input.
pub record MemoryInRun (P : Program) (input : List ℕ) (budget : ℕ) (left : List ℕ) (ticks : ℕ) (seen : InputSeen) (out : SinkSeen) : Type 0 where
  pub stops : StopsWithin P input budget ticks out
  pub pieces : RunPieces P input ticks [] out
  pub wanted : WantedBefore ticks seen out ⊎ (WantedInRun P input left ticks out ⊎ WantedBehind (run_answer P input budget) left ticks out)

-- likewise for all work: outside a run nothing was taken, and no tick was used
abbrev pub OutputBefore : Work → List ℕ → ℕ → InputSeen → SinkSeen → Type 0
OutputBefore idle left ticks seen out = (ticks ≡ 0) × TookNothing out.before out.now
OutputBefore (runs P input budget) left ticks seen out = MemoryInRun P input budget left ticks seen out
OutputBefore (runs_and_writes behind P input budget) left ticks seen out = MemoryInRun P input budget left ticks seen out

-- In a run the item that took the last of these ticks asked for a line: of this the lines that were asked for are one more than with one tick less, and
-- what is left of the input is what was left then. All that is written in these ticks was taken.
pub record AskedInTick (P : Program) (input left : List ℕ) (ticks : ℕ) (out : SinkSeen) : Type 0 where
  pub some : 0 < ticks
  pub asked : run_asked (meaning P input ticks) ≡ suc (run_asked (meaning P input (ticks - 1)))
  pub rest : left ≡ run_left (meaning P input (ticks - 1))
  pub output : Grows out.before.taken out.now.taken (run_output (meaning P input ticks))

-- where the input of a run failed
pub record InputFaultInRun (P : Program) (input : List ℕ) (budget : ℕ) (left : List ℕ) (ticks : ℕ) (out : SinkSeen) : Type 0 where
  pub stops : StopsWithin P input budget ticks out
  pub asks : AskedInTick P input left ticks out
  pub pieces : RunPieces P input ticks [] out

-- the input fails in a run alone
abbrev pub OutputAsked : Work → List ℕ → ℕ → SinkSeen → Type 0
OutputAsked idle left ticks out = ⊥
OutputAsked (runs P input budget) left ticks out = InputFaultInRun P input budget left ticks out
OutputAsked (runs_and_writes behind P input budget) left ticks out = InputFaultInRun P input budget left ticks out

-- likewise where a write of a run failed: of the piece of the last item a front was taken, and of the input is left what the run left of it in these ticks
pub record FaultInRun (P : Program) (input : List ℕ) (budget : ℕ) (left : List ℕ) (ticks : ℕ) (out : SinkSeen) : Type 0 where
  pub stops : StopsWithin P input budget ticks out
  pub front : RunFront P input ticks out
  pub rest : left ≡ run_left (meaning P input ticks)

-- A write failed behind a run that is done with these ticks, that of lines that aren't empty: behind all of the run's output a front of them was
-- taken. Of the input is left what the run left.
pub record FaultBehindRun (behind : Behind) (P : Program) (input : List ℕ) (budget : ℕ) (left : List ℕ) (ticks : ℕ) (out : SinkSeen) : Type 0 where
  pub state : State Value
  pub more : ℕ
  pub done : meaning P input budget ≡ Done state more
  pub used : ticks ≡ budget - more
  pub lines : List ℕ
  pub lines_are : lines ≡ behind ticks (map (shown P state.world) (reverse state.stack))
  pub some : 0 < length lines
  pub count : ℕ
  pub most : count ≤ length lines
  pub taken : Grows out.before.taken out.now.taken (state.world.output ++ take count lines)
  pub pieces : RunPieces P input ticks (take count lines) out
  pub rest : left ≡ state.world.input

-- what was taken where a write failed: outside a run the one that there is
abbrev pub OutputFront : Work → Answer → List ℕ → ℕ → SinkSeen → Type 0
OutputFront idle answer left ticks out = (ticks ≡ 0) × (0 < length answer.output) × TookFront out.before out.now answer.output
OutputFront (runs P input budget) answer left ticks out = FaultInRun P input budget left ticks out
OutputFront (runs_and_writes behind P input budget) answer left ticks out = FaultInRun P input budget left ticks out ⊎ FaultBehindRun behind P input budget left ticks out

-- there is neither a stack nor a refusal: what stood on the stack of a run that was cut short isn't told
pub record IsBare (ended : Ended) : Type 0 where
  pub stack : ended.stack ≡ None
  pub refusal : ended.refusal ≡ None

-- how work on texts ends, by the kind of its status; this is left of the input
abbrev pub EndsBy : Ending → Answer → Work → SinkSeen → InputSeen → List ℕ → Ended → Type 0
EndsBy Told answer work out seen left ended = Matches answer out left ended × OutputWhole work answer ended.ticks out
EndsBy Usage answer work out seen left ended = ⊥
EndsBy TooLong answer work out seen left ended = ⊥
EndsBy FileFault answer work out seen left ended = ⊥
EndsBy InputFault answer work out seen left ended = Rose seen.faults_before seen.faults_now × IsBare ended × OutputAsked work left ended.ticks out
EndsBy WriteFault answer work out seen left ended = Rose out.faults_before out.faults_now × IsBare ended × OutputFront work answer left ended.ticks out
EndsBy NoMemory answer work out seen left ended = IsBare ended × OutputBefore work left ended.ticks seen out

-- the work has this answer, or was cut short
abbrev pub EndsAs : Answer → Work → SinkSeen → InputSeen → List ℕ → Ended → Type 0
EndsAs answer work out seen left ended = EndsBy (ending_of ended.status) answer work out seen left ended

-- work that runs nothing takes nothing of the input
abbrev pub UnreadBy : Work → InputSeen → Type 0
UnreadBy idle seen = IsUnread seen
UnreadBy (runs P input budget) seen = Unit {0}
UnreadBy (runs_and_writes behind P input budget) seen = Unit {0}

-- the work on this input has its answer, or was cut short, and this is left
pub record EndsOn (answer : List ℕ → Answer) (work : List ℕ → Work) (out : SinkSeen) (seen : InputSeen) (ended : Ended) (input left : List ℕ) : Type 0 where
  pub ends : EndsAs (answer input) (work input) out seen left ended
  pub unread : UnreadBy (work input) seen
