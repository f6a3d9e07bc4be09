-- The notes of a session, and how it ends by its last one.
use Rattle.std.specs.Prelude.{◌≡◌, ◌==◌, ◌⊎◌, ℕ, List, [], ◌∷◌, ◌++◌, codes, decimal, Option, Some, None, if◌then◌else◌}
use Rattle.std.specs.List.{concat}
use Rattle.fac_io.specs.Faults.{Rose}
use Rattle.fac_io.specs.Told.{SinkTold, sink_tells, Grows, TookWhole, TookFront}
use Rattle.fac_notes.specs.declared.report.Report.{Report}
use Rattle.fac_notes.specs.declared.status.TheConstants.{INPUT_FAULT, WRITE_FAULT, NO_MEMORY}
use Rattle.fac_listen.specs.declared.heard.Heard.{Heard}

-- where notes are written: what is told of the bytes that were taken and of their pieces, and how often it failed
pub record NotesTold : Type 0 where
  pub sink : SinkTold
  pub faults : ℕ

-- a sink of some kind, of which these tell
abbrev pub notes_told : {N : Type 0} → (N → Option (List ℕ)) → (N → Option (List (List ℕ))) → (N → ℕ) → N → NotesTold
notes_told taken pieces faults n = record { sink = sink_tells (taken n) (pieces n); faults = faults n }

-- notes, each in a write of its own
pub record AreNoted (notes : List (List ℕ)) (before now : NotesTold) : Type 0 where
  pub taken : Grows before.sink.taken now.sink.taken (concat notes)
  pub pieces : Grows before.sink.pieces now.sink.pieces notes
  pub count : now.faults ≡ before.faults

-- one note, in one write
pub record IsNoted (note : List ℕ) (before now : NotesTold) : Type 0 where
  pub took : TookWhole before.sink now.sink note
  pub count : now.faults ≡ before.faults

-- the write of a note failed, and of this one write a front was taken
pub record IsNotedInPart (note : List ℕ) (before now : NotesTold) : Type 0 where
  pub took : TookFront before.sink now.sink note
  pub rose : Rose before.faults now.faults

-- Texts of notes.

abbrev pub memory_note : List ℕ
memory_note = codes "out of memory\n"

abbrev pub too_long_note : List ℕ
too_long_note = codes "syntax: listener line too long\n"

-- the note of the status of a fault of the input or the output
abbrev pub fault_note : ℕ → ℕ → List ℕ
fault_note status ticks = (if status == INPUT_FAULT then codes "input fault after " ++ decimal ticks ++ codes " ticks\n" else codes "write fault after " ++ decimal ticks ++ codes " ticks\n")

-- Endings.

abbrev pub bare : ℕ → ℕ → Heard
bare status ticks = record { status = status; ticks = ticks; refusal = None }

abbrev pub refused : ℕ → ℕ → Report → Heard
refused status ticks why = record { status = status; ticks = ticks; refusal = Some why }

-- the note was written, and this is the ending
pub record EndsNoted (note : List ℕ) (reached : Heard) (before now : NotesTold) (heard : Heard) : Type 0 where
  pub noted : IsNoted note before now
  pub same : heard ≡ reached

-- its write failed, and that is the ending
pub record EndsInPart (note : List ℕ) (reached : Heard) (before now : NotesTold) (heard : Heard) : Type 0 where
  pub noted : IsNotedInPart note before now
  pub is : heard ≡ bare WRITE_FAULT reached.ticks

-- a session ends so, told by this note, which is written or fails
abbrev pub EndsTold : List ℕ → Heard → NotesTold → NotesTold → Heard → Type 0
EndsTold note reached before now heard = EndsNoted note reached before now heard ⊎ EndsInPart note reached before now heard

-- the same, or there is no memory for the note, and that is told
abbrev pub EndsToldIfMemory : List ℕ → Heard → NotesTold → NotesTold → Heard → Type 0
EndsToldIfMemory note reached before now heard = EndsTold note reached before now heard ⊎ EndsTold memory_note (bare NO_MEMORY reached.ticks) before now heard

-- A note for which there is no memory, or whose write failed, ends a session that has used so many ticks.
abbrev pub EndsByLine : List ℕ → ℕ → NotesTold → NotesTold → Heard → Type 0
EndsByLine note ticks before now heard = EndsInPart note (bare WRITE_FAULT ticks) before now heard ⊎ EndsTold memory_note (bare NO_MEMORY ticks) before now heard

-- the note of a line behind which the session goes on
abbrev pub TellsLine : List ℕ → ℕ → NotesTold → NotesTold → Option Heard → Type 0
TellsLine note ticks before now None = IsNoted note before now
TellsLine note ticks before now (Some heard) = EndsByLine note ticks before now heard
