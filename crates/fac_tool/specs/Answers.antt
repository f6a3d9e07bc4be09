-- The whole call.
use Rattle.std.specs.Prelude.{◌≡◌, ◌≤◌, ◌<◌, ◌⊎◌, ℕ, List, ◌∷◌, length, None, Some, codes}
use Rattle.std.specs.declared.option.Option.{Option}
use Rattle.fac_io.specs.Faults.{Rose}
use Rattle.fac_io.specs.Told.{Stays, TookNothing, TookWhole, TookFront}
use Rattle.fac_lines.specs.Channels.{StaysUnless}
use Rattle.fac_notes.specs.declared.status.TheConstants.{NO_COMMAND, INPUT_FAULT, WRITE_FAULT, NO_MEMORY}
use Rattle.fac_command.specs.Command.{Command, Request, listen, work, request_of, files_of}
use Rattle.fac_tool.specs.declared.ended.Ended.{Ended}
use Rattle.fac_tool.specs.ToldNotes.{note_of, memory_note, usage_note}
use Rattle.fac_tool.specs.SeenObjects.{SinkSeen, FilesSeen, InputSeen, OnInput, IsUnread}
use Rattle.fac_tool.specs.Loads.{LoadsGive, LoadsEnd}
use Rattle.fac_tool.specs.Ends.{IsBare}
use Rattle.fac_tool.specs.Saved.{FilesTold, until, since}
use Rattle.fac_listen.specs.Devices.{DevicesTold}
use Rattle.fac_listen.specs.SessionNotes.{NotesTold}
use Rattle.fac_listen.specs.Listens.{ListensOn}
use Rattle.fac_listen.specs.declared.heard.Heard.{Heard}
use Rattle.fac_tool.specs.Plans.{Plan, AreKept, plan_of}

-- the loads gave no texts, and that ended the call, with nothing read and nothing written
pub record NoTexts (names : List (List ℕ)) (limit : ℕ) (files : FilesSeen) (seen : InputSeen) (out : SinkSeen) (ended : Ended) : Type 0 where
  pub ends : LoadsEnd names limit files ended
  pub unread : IsUnread seen
  pub out_is : TookNothing out.before out.now

-- The files of a plan were loaded, and this is what was done with their bytes, from that moment on.
pub record Loaded (plan : Plan) (files : FilesSeen) (seen : InputSeen) (out : SinkSeen) (ended : Ended) : Type 0 where
  pub texts : List (List ℕ)
  pub loaded : FilesTold
  pub loads : LoadsGive plan.files plan.limit (until files loaded) texts
  pub does : plan.Does texts (since files loaded) seen out ended

-- the work of a plan
abbrev pub ReachesBy : Plan → FilesSeen → InputSeen → SinkSeen → Ended → Type 0
ReachesBy plan files seen out ended = NoTexts plan.files plan.limit files seen out ended ⊎ Loaded plan files seen out ended

-- the work of a command: no count falls, those of the input and the output are as they were unless it is told that they failed, and it ends in one of these ways
pub record Reaches (command : Command) (files : FilesSeen) (seen : InputSeen) (out : SinkSeen) (ended : Ended) : Type 0 where
  pub files_count : files.faults_before ≤ files.faults_now
  pub input_count : StaysUnless seen.faults_before seen.faults_now (ended.status ≡ INPUT_FAULT)
  pub out_count : StaysUnless out.faults_before out.faults_now (ended.status ≡ WRITE_FAULT)
  pub ending : ReachesBy (plan_of command) files seen out ended

-- the note was written whole, in one write, or it is empty and nothing was
pub record NoteWhole (note : List ℕ) (reached : Ended) (notes : SinkSeen) (ended : Ended) : Type 0 where
  pub same : ended ≡ reached
  pub count : notes.faults_now ≡ notes.faults_before
  pub note_is : TookWhole notes.before notes.now note

-- the write of a note failed, which isn't empty, and of this one write a front was taken
pub record NotePart (note : List ℕ) (reached : Ended) (notes : SinkSeen) (ended : Ended) : Type 0 where
  pub some : 0 < length note
  pub status : ended.status ≡ WRITE_FAULT
  pub ticks : ended.ticks ≡ reached.ticks
  pub bare : IsBare ended
  pub rose : Rose notes.faults_before notes.faults_now
  pub note_is : TookFront notes.before notes.now note

-- an ending is told by this note, whole or in part
abbrev pub TellsBy : List ℕ → Ended → SinkSeen → Ended → Type 0
TellsBy note reached notes ended = NoteWhole note reached notes ended ⊎ NotePart note reached notes ended

-- the ending in place of another where there was no memory for its note
abbrev pub unnoted : Ended → Ended
unnoted reached = record { status = NO_MEMORY; ticks = reached.ticks; stack = None; refusal = None }

-- there was no memory for the note, which isn't empty, and that was noted in its place, whole or in part
pub record NoteNoMemory (note : List ℕ) (reached : Ended) (notes : SinkSeen) (ended : Ended) : Type 0 where
  pub some : 0 < length note
  pub noted : TellsBy memory_note (unnoted reached) notes ended

-- the ending is told by its note, or there is no memory for that
abbrev pub TellsNote : List ℕ → Ended → SinkSeen → Ended → Type 0
TellsNote note reached notes ended = TellsBy note reached notes ended ⊎ NoteNoMemory note reached notes ended

abbrev pub Tells : List (List ℕ) → Ended → SinkSeen → Ended → Type 0
Tells names reached notes ended = TellsNote (note_of names reached.status reached.ticks reached.refusal) reached notes ended

-- the ending of words that meet no form
abbrev pub usage : Ended
usage = record { status = NO_COMMAND; ticks = 0; stack = None; refusal = None }

-- usage is told, which takes no memory
abbrev pub TellsUsage : SinkSeen → Ended → Type 0
TellsUsage notes ended = TellsBy usage_note usage notes ended

-- the ending where there is no memory for the words
abbrev pub no_words : Ended
no_words = record { status = NO_MEMORY; ticks = 0; stack = None; refusal = None }

-- that is told, which takes no memory
abbrev pub TellsNoWords : SinkSeen → Ended → Type 0
TellsNoWords notes ended = TellsBy memory_note no_words notes ended

-- nothing was done with the files, the input and the output
pub record IsIdle (files : FilesSeen) (seen : InputSeen) (out : SinkSeen) : Type 0 where
  pub files_count : files.faults_now ≡ files.faults_before
  pub out_count : out.faults_now ≡ out.faults_before
  pub held : Stays files.held_before files.held_now
  pub asked : Stays files.asked_before files.asked_now
  pub unread : IsUnread seen
  pub out_is : TookNothing out.before out.now

-- the names of the files by their numbers: 0 is the prelude, and those of a command have the numbers from 1 on
abbrev pub numbered_names : List (List ℕ) → List (List ℕ)
numbered_names names = codes "prelude" ∷ names

-- the work of a command, and then its note
abbrev pub Works : Command → FilesSeen → InputSeen → SinkSeen → SinkSeen → Ended → Type 0
Works command files seen out notes ended = (reached : Ended) × Reaches command files seen out reached × Tells (numbered_names (files_of command)) reached notes ended

-- the ending of a session of the listener
abbrev pub heard_ending : Heard → Ended
heard_ending heard = record { status = heard.status; ticks = heard.ticks; stack = None; refusal = heard.refusal }

-- what is told of the output, with the counts of faults, before and now, and of the notes
abbrev pub devices_before : InputSeen → SinkSeen → DevicesTold
devices_before seen out = record { output = out.before; input_faults = seen.faults_before; output_faults = out.faults_before }

abbrev pub devices_now : InputSeen → SinkSeen → DevicesTold
devices_now seen out = record { output = out.now; input_faults = seen.faults_now; output_faults = out.faults_now }

abbrev pub notes_before : SinkSeen → NotesTold
notes_before notes = record { sink = notes.before; faults = notes.faults_before }

abbrev pub notes_now : SinkSeen → NotesTold
notes_now notes = record { sink = notes.now; faults = notes.faults_now }

-- a session of the listener ended so
pub record HearsSession (seen : InputSeen) (out notes : SinkSeen) (ended : Ended) : Type 0 where
  pub heard : Heard
  pub same : ended ≡ heard_ending heard
  pub listens : OnInput seen (λ input left. ListensOn input left (devices_before seen out) (devices_now seen out) (notes_before notes) (notes_now notes) heard)

abbrev pub AnswersBy : Option Request → FilesSeen → InputSeen → SinkSeen → SinkSeen → Ended → Type 0
AnswersBy None files seen out notes ended = IsIdle files seen out × TellsUsage notes ended
AnswersBy (Some listen) files seen out notes ended = AreKept files × HearsSession seen out notes ended
AnswersBy (Some (work command)) files seen out notes ended = Works command files seen out notes ended

-- what the tool does on a command line
abbrev pub Answers : List (List ℕ) → FilesSeen → InputSeen → SinkSeen → SinkSeen → Ended → Type 0
Answers words files seen out notes ended = AnswersBy (request_of words) files seen out notes ended
