-- Inner contracts: how a session ends from its first line on.
use Rattle.std.specs.Prelude.{◌≡◌, ◌⊎◌, ℕ, suc, List, length, false}
use Rattle.fac_io.specs.Told.{Grows}
use Rattle.fac_notes.specs.Notes.{line_of as note_of}
use Rattle.fac_notes.specs.Sources.{Source}
use Rattle.fac_notes.specs.Statuses.{status_of}
use Rattle.fac_notes.specs.declared.status.TheConstants.{NO_MEMORY}
use Rattle.fac_session.specs.Heard.{Heard as HeardOf, heard, last_note}
use Rattle.fac_session.specs.Sessions.{Session}
use Rattle.fac_judge.specs.declared.known_texts.SessionFault.{SessionFault}
use Rattle.fac_judge.specs.declared.known_texts.SessionFault.TheVariants as fault
use Rattle.fac_listener.specs.StandingSessions.{has_ended}
use Rattle.fac_listen.specs.Devices.{DevicesTold, DevicesStand}
use Rattle.fac_listen.specs.Fronts.{Front, StandsBehindLines, left_behind}
use Rattle.fac_listen.specs.Listens.{EndsWhole, IsCutFrom, notes_for}
use Rattle.fac_listen.specs.SessionNotes.{NotesTold, AreNoted, EndsTold, EndsToldIfMemory, bare, memory_note, refused}
use Rattle.fac_listen.specs.declared.heard.Heard.{Heard}
use Rattle.fac_listen.specs.declared.hearing.Hearing.{Hearing}
use Rattle.fac_listen.specs.inner.Hearings.{IsBehind}

-- a session was heard to its end in at most so many lines, each of which takes a byte
pub record HeardFrom (source : List ℕ → Source) (s : Session) (input left : List ℕ) (before now : DevicesTold) (notes_before notes_now : NotesTold) (ended : Heard) : Type 0 where
  pub rest : left ≡ left_behind source (suc (length input)) s input
  pub output : Grows before.output.taken now.output.taken (heard source (suc (length input)) s input).output
  pub counts : DevicesStand before now
  pub between : NotesTold
  pub told : AreNoted (notes_for (heard source (suc (length input)) s input).told) notes_before between
  pub ends : EndsWhole (heard source (suc (length input)) s input) (last_note (heard source (suc (length input)) s input).refusal) between notes_now ended

-- a session was heard from its first line to its end, or was cut short
abbrev pub EndsFrom : (List ℕ → Source) → Session → List ℕ → List ℕ → DevicesTold → DevicesTold → NotesTold → NotesTold → Heard → Type 0
EndsFrom source s input left before now notes_before notes_now ended =
    HeardFrom source s input left before now notes_before notes_now ended ⊎ IsCutFrom source s input left before now notes_before notes_now ended

-- The session is behind some lines of the input, which were done and told, and this is left.
pub record IsInside (source : List ℕ → Source) (s : Session) (input left : List ℕ) (before now : DevicesTold) (notes_before notes_now : NotesTold) (hearing : Hearing) : Type 0 where
  pub front : Front
  pub stands : StandsBehindLines source s input front
  pub behind : IsBehind source front hearing
  pub is_open : has_ended hearing.session ≡ false
  pub rest : left ≡ front.left
  pub output : Grows before.output.taken now.output.taken front.output
  pub counts : DevicesStand before now
  pub noted : AreNoted (notes_for front.told) notes_before notes_now

-- there is no session for this reason
abbrev pub EndsUnbegun : SessionFault → List (List ℕ) → NotesTold → NotesTold → Heard → Type 0
EndsUnbegun (fault.Prelude why) names before now heard = EndsToldIfMemory (note_of names why) (refused (status_of why) 0 why) before now heard
EndsUnbegun fault.Memory names before now heard = EndsTold memory_note (bare NO_MEMORY 0) before now heard
