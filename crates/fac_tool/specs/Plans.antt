-- What a command does, as one record, and the row of each command.
--
-- A plan says which files are loaded and how many bytes they may have together, and what is done with their bytes: with the files from that moment on, with the
-- input and with the output. All that is said of commands is said of plans (`Loaded` of `Answers`), so a command more is a row of `plan_of`.
--
-- Of a command on sources, or on a text that it draws, its row is a task: the answer, as a function of the program and of the input; the work in which that may be cut short, which says after
-- which of its pieces (`Work` of `Ends`); and the name under which the image is saved, where one is. Of a command on an image its row is what is done with the
-- image on an input. A command that answers line by line has a plan too: its `Does` is an ending (`EndsOn`) whose answer is the fold over the lines, and whose
-- work has a case more, with the pieces that are written between them.
use Rattle.std.specs.Prelude.{◌≡◌, ◌⊎◌, ℕ, List, [], ◌∷◌, length, None, Some, IfSome}
use Rattle.std.specs.declared.option.Option.{Option}
use Rattle.fac_io.specs.Told.{Stays, TookNothing}
use Rattle.fac_base.specs.declared.limits.TheConstants.{MOST_IMAGE_BYTES}
use Rattle.fac_lang.specs.declared.program.Program.{Program}
use Rattle.fac_check.specs.Promises.{IsSafe}
use Rattle.fac_notes.specs.declared.status.TheConstants.{NO_MEMORY}
use Rattle.fac_command.specs.Command.{Command}
use Rattle.fac_command.specs.Command as command
use Rattle.fac_gen.specs.Generated.{generated}
use Rattle.fac_tool.specs.declared.ended.Ended.{Ended}
use Rattle.fac_notes.specs.Sources.{Source}
use Rattle.fac_tool.specs.Answer.{Sources, Answer, Behind, OnAccepted, answer_on, checked_answer, run_answer, written_answer, stack_behind, summary_behind, come_to, limit, accepted}
use Rattle.fac_tool.specs.Sources.{AreReadWithPrelude}
use Rattle.fac_tool.specs.SeenObjects.{SinkSeen, FilesSeen, InputSeen, OnInput, IsUnread}
use Rattle.fac_tool.specs.Ends.{EndsOn, Work, idle, runs, runs_and_writes, work_of}
use Rattle.fac_tool.specs.Saved.{Saves}
use Rattle.fac_tool.specs.Executed.{OnImage, DoesOnBytes, executed, listed}

-- what a command does
pub record Plan : Type 1 where
  -- the files that it loads, in this order, and the most bytes that they have together
  pub files : List (List ℕ)
  pub limit : ℕ
  -- what it does with these bytes, and with the files behind the loads
  pub Does : List (List ℕ) → FilesSeen → InputSeen → SinkSeen → Ended → Type 0

-- what is done with the accepted program of sources
pub record Task : Type 0 where
  pub answer : OnAccepted
  pub work : Program → List ℕ → Work
  pub saves : Option (List ℕ)

-- nothing was done with the files
pub record AreKept (files : FilesSeen) : Type 0 where
  pub held : Stays files.held_before files.held_now
  pub asked : Stays files.asked_before files.asked_now
  pub faults : files.faults_now ≡ files.faults_before

-- The work on sources has the answer of what they come to and of the input, or was cut short, and nothing was saved. All that is said of it is said of one input.
pub record AnswersTask (task : Task) (sources : Sources) (files : FilesSeen) (seen : InputSeen) (out : SinkSeen) (ended : Ended) : Type 0 where
  pub kept : AreKept files
  pub ends : OnInput seen (EndsOn (answer_on task.answer sources) (work_of task.work (accepted sources)) out seen ended)

-- the program of the sources was accepted, and its image was saved under a name, or that failed
pub record SavesProgram (sources : Sources) (image : List ℕ) (files : FilesSeen) (seen : InputSeen) (out : SinkSeen) (ended : Ended) : Type 0 where
  pub P : Program
  pub is : accepted sources ≡ Some P
  pub saves : Saves P image files ended
  pub unread : IsUnread seen
  pub out_is : TookNothing out.before out.now

abbrev pub SavesTask : Option (List ℕ) → Sources → FilesSeen → InputSeen → SinkSeen → Ended → Type 0
SavesTask None sources files seen out ended = ⊥
SavesTask (Some image) sources files seen out ended = SavesProgram sources image files seen out ended

-- Texts come to sources behind the prelude, and this was done with them. An accepted program is safe.
pub record DoesOnSources (task : Task) (texts : List (List ℕ)) (files : FilesSeen) (seen : InputSeen) (out : SinkSeen) (ended : Ended) : Type 0 where
  pub sources : List Source
  pub are_read : AreReadWithPrelude texts sources
  pub sound : IfSome (accepted (come_to sources)) (λ P. IsSafe P 0)
  pub ends : AnswersTask task (come_to sources) files seen out ended ⊎ SavesTask task.saves (come_to sources) files seen out ended

-- the one text is the bytes of an image, and this was done with them
pub record DoesOnImage (On : OnImage) (texts : List (List ℕ)) (files : FilesSeen) (seen : InputSeen) (out : SinkSeen) (ended : Ended) : Type 0 where
  pub bytes : List ℕ
  pub is : texts ≡ bytes ∷ []
  pub kept : AreKept files
  pub does : DoesOnBytes On bytes seen out ended

-- the plan of a command on sources of these names, of one on a text of its own, which is file 1, and of one on the image of this name
abbrev pub on_sources : List (List ℕ) → Task → Plan
on_sources names task = record { files = names; limit = limit; Does = DoesOnSources task }

abbrev pub on_text : List ℕ → Task → Plan
on_text text task = record { files = []; limit = limit; Does = λ texts. DoesOnSources task (text ∷ []) }

abbrev pub on_image : List ℕ → OnImage → Plan
on_image name On = record { files = name ∷ []; limit = MOST_IMAGE_BYTES; Does = DoesOnImage On }

-- `check` runs nothing
abbrev pub checking : Task
checking = record { answer = λ count P input. checked_answer count input; work = λ P input. idle; saves = None }

-- `run` with a budget, and with something written behind the run
abbrev pub running : ℕ → Task
running budget = record { answer = λ count P input. run_answer P input budget; work = λ P input. runs P input budget; saves = None }

abbrev pub running_then : Behind → ℕ → Task
running_then behind budget = record { answer = λ count P input. written_answer behind P input budget; work = λ P input. runs_and_writes behind P input budget; saves = None }

-- `gen` runs the text of so many words with a budget, and sums it up
abbrev pub summing_up : ℕ → List ℕ → ℕ → Task
summing_up words text budget = running_then (summary_behind words (length text)) budget

-- What `build` does with an accepted program is no function: the image is one of those that carry it. So without it there is only want of memory.
abbrev pub no_answer : List ℕ → Answer
no_answer input = record { status = NO_MEMORY; ticks = 0; stack = None; refusal = None; output = []; left = input }

abbrev pub saving : List ℕ → Task
saving image = record { answer = λ count P input. no_answer input; work = λ P input. idle; saves = Some image }

-- the row of each command
abbrev pub plan_of : Command → Plan
plan_of (command.check names) = on_sources names checking
plan_of (command.run budget names) = on_sources names (running budget)
plan_of (command.run_stack budget names) = on_sources names (running_then stack_behind budget)
plan_of (command.build names image) = on_sources names (saving image)
plan_of (command.exec budget image) = on_image image (executed budget)
plan_of (command.list image) = on_image image listed
plan_of (command.generate budget name seed words) = on_text (generated seed words) (summing_up words (generated seed words) budget)
