-- What listening comes to: what a session on the input comes to, or how far it came.
use Rattle.std.specs.Prelude.{◌≡◌, ◌⊎◌, ◌+◌, ℕ, List, [], ◌∷◌, ◌++◌, length, map, min, Some, None, Option, Ok}
use Rattle.fac_io.specs.Told.{SinkTold, Grows}
use Rattle.fac_lines.specs.Channels.{ChannelsTold, OnChannels}
use Rattle.fac_notes.specs.Notes.{line_of as note_of}
use Rattle.fac_notes.specs.Sources.{Source}
use Rattle.fac_notes.specs.declared.report.Report.{Report}
use Rattle.fac_notes.specs.declared.status.TheConstants.{INPUT_FAULT, WRITE_FAULT, NO_MEMORY}
use Rattle.fac_prelude.specs.PreludeText.{prelude_text}
use Rattle.fac_session.specs.Heard.{Heard as HeardOf, file_names, last_note, listened, most_ticks, told_of}
use Rattle.fac_session.specs.Sessions.{Session, Meant, meant, session_of}
use Rattle.fac_session.specs.SessionLines.{behind_waiting}
use Rattle.fac_listener.specs.Replies.{AreSources, Cause, by_input, by_output, by_memory, IsCutShort}
use Rattle.fac_judge.specs.TextSources.{IsReadAs}
use Rattle.fac_listen.specs.Devices.{devices_of, DevicesTold, DevicesStand, DevicesCount}
use Rattle.fac_listen.specs.Fronts.{Front, StandsBehindLines, LineOf, comes_to, left_from, with_last}
use Rattle.fac_listen.specs.SessionNotes.{NotesTold, AreNoted, EndsByLine, EndsTold, EndsToldIfMemory, bare, fault_note, memory_note}
use Rattle.fac_listen.specs.declared.heard.Heard.{Heard}

-- the notes of these reports
abbrev pub notes_for : List Report → List (List ℕ)
notes_for told = map (note_of file_names) told

-- the ending of a session that was heard to its end
abbrev pub whole : HeardOf → Heard
whole h = record { status = h.status; ticks = h.ticks; refusal = h.refusal }

-- with its last note, where there is one
abbrev pub EndsWhole : HeardOf → List ℕ → NotesTold → NotesTold → Heard → Type 0
EndsWhole h [] before now heard = (heard ≡ whole h) × (now ≡ before)
EndsWhole h (c ∷ cs) before now heard = EndsToldIfMemory (c ∷ cs) (whole h) before now heard

-- The session was heard to its end, and this was left of the input. The output was written, and all notes were but for the last one, which may fail.
pub record HeardWhole (prelude : Source) (source : List ℕ → Source) (input left : List ℕ) (before now : DevicesTold) (notes_before notes_now : NotesTold) (heard : Heard) : Type 0 where
  pub rest : left ≡ left_from source input (session_of prelude)
  pub output : Grows before.output.taken now.output.taken (listened prelude source input).output
  pub counts : DevicesStand before now
  pub between : NotesTold
  pub told : AreNoted (notes_for (listened prelude source input).told) notes_before between
  pub ends : EndsWhole (listened prelude source input) (last_note (listened prelude source input).refusal) between notes_now heard

-- the input failed where the next line was to be taken
pub record CutByInput (f : Front) (before now : DevicesTold) (notes_before notes_now : NotesTold) (heard : Heard) : Type 0 where
  pub between : NotesTold
  pub noted : AreNoted (notes_for f.told) notes_before between
  pub ends : EndsToldIfMemory (fault_note INPUT_FAULT f.ticks) (bare INPUT_FAULT f.ticks) between notes_now heard
  pub counts : DevicesCount before now (Unit {0}) ⊥

-- memory was wanted behind the lines
pub record CutByMemory (f : Front) (before now : DevicesTold) (notes_before notes_now : NotesTold) (heard : Heard) : Type 0 where
  pub between : NotesTold
  pub noted : AreNoted (notes_for f.told) notes_before between
  pub ends : EndsTold memory_note (bare NO_MEMORY f.ticks) between notes_now heard
  pub counts : DevicesStand before now

-- the session was cut short between two lines; the output of those before was written
pub record CutBetween (source : List ℕ → Source) (s : Session) (input left : List ℕ) (before now : DevicesTold) (notes_before notes_now : NotesTold) (heard : Heard) : Type 0 where
  pub front : Front
  pub stands : StandsBehindLines source s input front
  pub rest : left ≡ front.left
  pub output : Grows before.output.taken now.output.taken front.output
  pub cut : CutByInput front before now notes_before notes_now heard ⊎ CutByMemory front before now notes_before notes_now heard

-- The note of what was said of a line failed, or there was no memory for it. What the line comes to was done, and its output was written.
pub record CutAtNote (source : List ℕ → Source) (s : Session) (input left : List ℕ) (before now : DevicesTold) (notes_before notes_now : NotesTold) (heard : Heard) : Type 0 where
  pub at : LineOf source s input
  pub why : Report
  pub said : told_of (comes_to at).said ≡ why ∷ []
  pub rest : left ≡ (comes_to at).left
  pub output : Grows before.output.taken now.output.taken (with_last at.front (comes_to at)).output
  pub between : NotesTold
  pub noted : AreNoted (notes_for at.front.told) notes_before between
  pub ends : EndsByLine (note_of file_names why) (with_last at.front (comes_to at)).ticks between notes_now heard
  pub counts : DevicesStand before now

-- what a line's text comes to, behind the text that waits
abbrev pub text_of : {source : List ℕ → Source} {s : Session} {input : List ℕ} → LineOf source s input → Meant
text_of {source} l = meant l.front.session.known (length l.front.session.stack) (source (behind_waiting l.front.session.waiting l.bytes))

abbrev pub InputFailed : Cause → Type 0
InputFailed by_input = Unit {0}
InputFailed _ = ⊥

abbrev pub OutputFailed : Cause → Type 0
OutputFailed by_output = Unit {0}
OutputFailed _ = ⊥

-- the ending of such a session
abbrev pub EndsCut : Cause → ℕ → NotesTold → NotesTold → Heard → Type 0
EndsCut by_input ticks before now heard = EndsToldIfMemory (fault_note INPUT_FAULT ticks) (bare INPUT_FAULT ticks) before now heard
EndsCut by_output ticks before now heard = EndsToldIfMemory (fault_note WRITE_FAULT ticks) (bare WRITE_FAULT ticks) before now heard
EndsCut by_memory ticks before now heard = EndsTold memory_note (bare NO_MEMORY ticks) before now heard

-- The session was cut short in a line, with so many ticks of its phrase. The output of the lines before it was written, and of its own as much as `IsCutShort` says,
-- and so it is of the input behind the line.
pub record CutInLine (source : List ℕ → Source) (s : Session) (input left : List ℕ) (before now : DevicesTold) (notes_before notes_now : NotesTold) (heard : Heard) : Type 0 where
  pub at : LineOf source s input
  pub written : SinkTold
  pub output : Grows before.output.taken written.taken at.front.output
  pub cause : Cause
  pub ticks : ℕ
  pub cut : IsCutShort cause (text_of at) at.front.session at.rest left ticks written now.output
  pub between : NotesTold
  pub noted : AreNoted (notes_for at.front.told) notes_before between
  pub ends : EndsCut cause (min (at.front.ticks + ticks) most_ticks) between notes_now heard
  pub counts : DevicesCount before now (InputFailed cause) (OutputFailed cause)

-- memory was wanted before the first line
pub record NoSession (input left : List ℕ) (before now : DevicesTold) (notes_before notes_now : NotesTold) (heard : Heard) : Type 0 where
  pub rest : left ≡ input
  pub still : now ≡ before
  pub ends : EndsTold memory_note (bare NO_MEMORY 0) notes_before notes_now heard

-- a session was cut short, from its first line on
abbrev pub IsCutFrom : (List ℕ → Source) → Session → List ℕ → List ℕ → DevicesTold → DevicesTold → NotesTold → NotesTold → Heard → Type 0
IsCutFrom source s input left before now notes_before notes_now heard =
    CutBetween source s input left before now notes_before notes_now heard ⊎ (CutAtNote source s input left before now notes_before notes_now heard ⊎ CutInLine source s input left before now notes_before notes_now heard)

-- the session that there is before the first line was cut short
pub record CutShort (prelude : Source) (source : List ℕ → Source) (input left : List ℕ) (before now : DevicesTold) (notes_before notes_now : NotesTold) (heard : Heard) : Type 0 where
  pub session : Session
  pub is : session_of prelude ≡ Ok session
  pub cut : IsCutFrom source session input left before now notes_before notes_now heard

-- how listening ends, by what the prelude and the texts come to
abbrev pub ListensBy : Source → (List ℕ → Source) → List ℕ → List ℕ → DevicesTold → DevicesTold → NotesTold → NotesTold → Heard → Type 0
ListensBy prelude source input left before now notes_before notes_now heard =
    HeardWhole prelude source input left before now notes_before notes_now heard ⊎ (NoSession input left before now notes_before notes_now heard ⊎ CutShort prelude source input left before now notes_before notes_now heard)

-- What the prelude, which is file 0, and each text as file 1 come to, by which listening on this input ends, of which this is left.
pub record ListensOn (input left : List ℕ) (before now : DevicesTold) (notes_before notes_now : NotesTold) (heard : Heard) : Type 0 where
  pub prelude : Source
  pub source : List ℕ → Source
  pub is_read : IsReadAs 0 prelude_text prelude
  pub are_read : AreSources source
  pub ends : ListensBy prelude source input left before now notes_before notes_now heard

-- how listening on channels ends
abbrev pub Listens : ChannelsTold → ChannelsTold → NotesTold → NotesTold → Heard → Type 0
Listens before now notes_before notes_now heard = OnChannels before now (λ written taken input left. ListensOn input left (devices_of before) (devices_of now) notes_before notes_now heard)
