-- Inner contracts: what the next line of a session comes to.
use Rattle.std.specs.Prelude.{◌≡◌, ◌⊎◌, ◌+◌, ℕ, List, [], ◌∷◌, ◌++◌, length, min, Some, None, Option, false}
use Rattle.fac_io.specs.Told.{SinkTold, Grows}
use Rattle.fac_lines.specs.LineReads.{NoLine, Line, LineTooLong, line_of}
use Rattle.fac_lines.specs.declared.line_fault.LineFault.{LineFault}
use Rattle.fac_lines.specs.declared.line_fault.LineFault.TheVariants as fault
use Rattle.fac_notes.specs.Notes.{line_of as note_of}
use Rattle.fac_notes.specs.Sources.{Source}
use Rattle.fac_notes.specs.Statuses.{status_of}
use Rattle.fac_notes.specs.declared.report.Report.{Report}
use Rattle.fac_notes.specs.declared.status.TheConstants.{SUCCESS, SYNTAX_REFUSED, INPUT_FAULT, WRITE_FAULT, NO_MEMORY}
use Rattle.fac_session.specs.Heard.{file_names, most_ticks, told_of, too_long}
use Rattle.fac_session.specs.Sessions.{Session, meant}
use Rattle.fac_session.specs.SessionLines.{Behind, behind_waiting, line}
use Rattle.fac_listener.specs.Replies.{Cause, IsCutShort}
use Rattle.fac_listener.specs.StandingSessions.{has_ended}
use Rattle.fac_listen.specs.Devices.{DevicesTold, DevicesStand, DevicesCount}
use Rattle.fac_listen.specs.Fronts.{Front, with_last}
use Rattle.fac_listen.specs.Listens.{EndsCut, InputFailed, OutputFailed, notes_for}
use Rattle.fac_listen.specs.SessionNotes.{NotesTold, AreNoted, EndsByLine, EndsTold, EndsToldIfMemory, bare, refused, fault_note, memory_note, too_long_note}
use Rattle.fac_listen.specs.declared.heard.Heard.{Heard}
use Rattle.fac_listen.specs.declared.hearing.Hearing.{Hearing}
use Rattle.fac_listen.specs.inner.Hearings.{IsBehind}

-- a line comes to this, which was done and told
pub record GoesOnWith (source : List ℕ → Source) (f : Front) (b : Behind) (left : List ℕ) (before now : DevicesTold) (notes_before notes_now : NotesTold) (new : Hearing) : Type 0 where
  pub behind : IsBehind source (with_last f b) new
  pub open_still : has_ended new.session ≡ false
  pub rest : left ≡ b.left
  pub output : Grows before.output.taken now.output.taken b.output
  pub counts : DevicesStand before now
  pub noted : AreNoted (notes_for (told_of b.said)) notes_before notes_now

-- a line comes to this, which was done, and its note ends the session
pub record NoteEnds (f : Front) (b : Behind) (left : List ℕ) (before now : DevicesTold) (notes_before notes_now : NotesTold) (heard : Heard) : Type 0 where
  pub why : Report
  pub told : told_of b.said ≡ why ∷ []
  pub rest : left ≡ b.left
  pub output : Grows before.output.taken now.output.taken b.output
  pub counts : DevicesStand before now
  pub ends : EndsByLine (note_of file_names why) (with_last f b).ticks notes_before notes_now heard

-- a line is cut short
pub record LineEnds (source : List ℕ → Source) (f : Front) (bytes input left : List ℕ) (before now : DevicesTold) (notes_before notes_now : NotesTold) (heard : Heard) : Type 0 where
  pub cause : Cause
  pub ticks : ℕ
  pub cut : IsCutShort cause (meant f.session.known (length f.session.stack) (source (behind_waiting f.session.waiting bytes))) f.session input left ticks before.output now.output
  pub ends : EndsCut cause (min (f.ticks + ticks) most_ticks) notes_before notes_now heard
  pub counts : DevicesCount before now (InputFailed cause) (OutputFailed cause)

-- a line with these bytes was taken, with this input behind it
abbrev pub TakesLine : (List ℕ → Source) → Front → List ℕ → List ℕ → List ℕ → DevicesTold → DevicesTold → NotesTold → NotesTold → Hearing → Option Heard → Type 0
TakesLine source f bytes input left before now notes_before notes_now new None = GoesOnWith source f (line source f.session bytes input) left before now notes_before notes_now new
TakesLine source f bytes input left before now notes_before notes_now new (Some heard) =
    NoteEnds f (line source f.session bytes input) left before now notes_before notes_now heard ⊎ LineEnds source f bytes input left before now notes_before notes_now heard

-- no line is left: the session is done, or the text that waits is refused
abbrev pub EndsAt : Option Report → List (List ℕ) → ℕ → NotesTold → NotesTold → Heard → Type 0
EndsAt None names ticks before now heard = (heard ≡ bare SUCCESS ticks) × (now ≡ before)
EndsAt (Some why) names ticks before now heard = EndsToldIfMemory (note_of names why) (refused (status_of why) ticks why) before now heard

abbrev pub EndsThere : Hearing → NotesTold → NotesTold → Heard → Type 0
EndsThere hearing before now heard = EndsAt hearing.waits hearing.names hearing.ticks before now heard

-- there is no line for this reason
abbrev pub EndsWithout : LineFault → ℕ → NotesTold → NotesTold → Heard → Type 0
EndsWithout fault.TooLong ticks before now heard = EndsToldIfMemory too_long_note (refused SYNTAX_REFUSED ticks too_long) before now heard
EndsWithout fault.Failed ticks before now heard = EndsToldIfMemory (fault_note INPUT_FAULT ticks) (bare INPUT_FAULT ticks) before now heard
EndsWithout fault.Memory ticks before now heard = EndsTold memory_note (bare NO_MEMORY ticks) before now heard

-- what is left of the input is no line, and the session was heard to its end
pub record NothingLeft (f : Front) (left : List ℕ) (before now : DevicesTold) (notes_before notes_now : NotesTold) (waits : Option Report) (heard : Heard) : Type 0 where
  pub none : line_of f.left ≡ NoLine
  pub rest : left ≡ []
  pub still : now.output ≡ before.output
  pub counts : DevicesStand before now
  pub ends : EndsAt waits file_names f.ticks notes_before notes_now heard

pub record NextTooLong (f : Front) (left : List ℕ) (before now : DevicesTold) (notes_before notes_now : NotesTold) (heard : Heard) : Type 0 where
  pub long : line_of f.left ≡ LineTooLong left
  pub still : now.output ≡ before.output
  pub counts : DevicesStand before now
  pub ends : EndsWithout fault.TooLong f.ticks notes_before notes_now heard

-- the next line wasn't taken, since the input failed, or memory was wanted
pub record InputFails (f : Front) (left : List ℕ) (before now : DevicesTold) (notes_before notes_now : NotesTold) (heard : Heard) : Type 0 where
  pub rest : left ≡ f.left
  pub still : now.output ≡ before.output
  pub counts : DevicesCount before now (Unit {0}) ⊥
  pub ends : EndsWithout fault.Failed f.ticks notes_before notes_now heard

pub record NoMemoryForLine (f : Front) (left : List ℕ) (before now : DevicesTold) (notes_before notes_now : NotesTold) (heard : Heard) : Type 0 where
  pub rest : left ≡ f.left
  pub still : now.output ≡ before.output
  pub counts : DevicesStand before now
  pub ends : EndsWithout fault.Memory f.ticks notes_before notes_now heard

-- the session ends where its next line was to be taken; it waits for the end of a text, or doesn't
abbrev pub EndsAtNext : Front → Option Report → List ℕ → DevicesTold → DevicesTold → NotesTold → NotesTold → Heard → Type 0
EndsAtNext f waits left before now notes_before notes_now heard =
    NothingLeft f left before now notes_before notes_now waits heard ⊎ (NextTooLong f left before now notes_before notes_now heard ⊎ (InputFails f left before now notes_before notes_now heard ⊎ NoMemoryForLine f left before now notes_before notes_now heard))

-- a line was there and was taken
pub record NextTaken (source : List ℕ → Source) (f : Front) (left : List ℕ) (before now : DevicesTold) (notes_before notes_now : NotesTold) (new : Hearing) (result : Option Heard) : Type 0 where
  pub bytes : List ℕ
  pub input : List ℕ
  pub is_line : line_of f.left ≡ Line bytes input
  pub takes : TakesLine source f bytes input left before now notes_before notes_now new result

-- the next line behind some lines
abbrev pub TakesNext : (List ℕ → Source) → Front → Option Report → List ℕ → DevicesTold → DevicesTold → NotesTold → NotesTold → Hearing → Option Heard → Type 0
TakesNext source f waits left before now notes_before notes_now new None = NextTaken source f left before now notes_before notes_now new None
TakesNext source f waits left before now notes_before notes_now new (Some heard) =
    NextTaken source f left before now notes_before notes_now new (Some heard) ⊎ EndsAtNext f waits left before now notes_before notes_now heard
