-- Inner contracts: a session behind some lines, and its next line.
use Rattle.std.specs.Prelude.{◌≡◌, ◌⊎◌, ◌+◌, ℕ, List, [], ◌∷◌, length, map, min, Some, None, Option, Ok, Bool, false}
use Rattle.fac_base.specs.declared.text.Text.{Text}
use Rattle.fac_notes.specs.Notes.{line_of as note_of}
use Rattle.fac_notes.specs.Sources.{Source, no_tree}
use Rattle.fac_notes.specs.declared.report.Report.{Report}
use Rattle.fac_notes.specs.declared.report.Report.TheVariants as report
use Rattle.fac_notes.specs.declared.status.TheConstants.{INPUT_FAULT, WRITE_FAULT, NO_MEMORY}
use Rattle.fac_parse.specs.declared.reader.Why.TheVariants as why
use Rattle.fac_session.specs.Heard.{file_names, most_ticks}
use Rattle.fac_session.specs.Sessions.{Session}
use Rattle.fac_listener.specs.Replies.{AreSources, ends_session}
use Rattle.fac_listener.specs.StandingSessions.{Stands}
use Rattle.fac_listener.specs.declared.reply.Reply.{Reply}
use Rattle.fac_listener.specs.declared.reply.Reply.TheVariants as reply
use Rattle.fac_listen.specs.Fronts.{Front}
use Rattle.fac_listen.specs.Listens.{notes_for}
use Rattle.fac_listen.specs.SessionNotes.{NotesTold, AreNoted, EndsByLine, EndsTold, EndsToldIfMemory, bare, fault_note, memory_note}
use Rattle.fac_listen.specs.declared.heard.Heard.{Heard}
use Rattle.fac_listen.specs.declared.hearing.Hearing.{Hearing}

-- why the text that waits is no tree, where one does
abbrev pub Waits : (List ℕ → Source) → List ℕ → Option Report → Type 0
Waits source [] told = told ≡ None
Waits source (b ∷ bs) told = (at : ℕ) × (source (b ∷ bs) ≡ no_tree at why.End) × (told ≡ Some (report.Syntax 1 at why.End))

-- the code has a session behind these lines
pub record IsBehind (source : List ℕ → Source) (f : Front) (hearing : Hearing) : Type 0 where
  pub stands : Stands f.session hearing.session
  pub names : hearing.names ≡ file_names
  pub waits : Waits source f.session.waiting hearing.waits
  pub ticks : hearing.ticks ≡ f.ticks

-- Replies.

abbrev pub ticks_in : Reply → ℕ
ticks_in (reply.Ran n) = n
ticks_in (reply.Failed r n) = n
ticks_in (reply.Spent n) = n
ticks_in (reply.InputFault n) = n
ticks_in (reply.WriteFault n) = n
ticks_in (reply.Memory n) = n
ticks_in _ = 0

abbrev pub told_in : Reply → List Report
told_in (reply.Refused r) = r ∷ []
told_in (reply.Failed r n) = r ∷ []
told_in (reply.Spent n) = report.Spent n ∷ []
told_in _ = []

abbrev pub waits_in : Reply → Option Report
waits_in (reply.More r) = Some r
waits_in _ = None

-- the ticks behind a reply
abbrev pub ticks_behind : Hearing → Reply → ℕ
ticks_behind hearing r = min (hearing.ticks + ticks_in r) most_ticks

-- behind a line of which this was answered, where nothing waits
abbrev pub passed : Hearing → Reply → Hearing
passed hearing r = record hearing { waits = None; ticks = ticks_behind hearing r }

-- the session goes on behind a reply, which was told
pub record GoesOnBehind (old new : Hearing) (r : Reply) (notes_before notes_now : NotesTold) : Type 0 where
  pub stays : ends_session r ≡ false
  pub session : new.session ≡ old.session
  pub names : new.names ≡ old.names
  pub waits : new.waits ≡ waits_in r
  pub ticks : new.ticks ≡ ticks_behind old r
  pub noted : AreNoted (map (note_of old.names) (told_in r)) notes_before notes_now

-- a reply with a report ends the session where its note can't be told
abbrev pub EndsByTold : List (List ℕ) → List Report → ℕ → NotesTold → NotesTold → Heard → Type 0
EndsByTold names [] ticks before now heard = ⊥
EndsByTold names (r ∷ rs) ticks before now heard = EndsByLine (note_of names r) ticks before now heard

-- the session ends with a reply
abbrev pub EndsByReply : List (List ℕ) → Reply → ℕ → NotesTold → NotesTold → Heard → Type 0
EndsByReply names (reply.InputFault n) ticks before now heard = EndsToldIfMemory (fault_note INPUT_FAULT ticks) (bare INPUT_FAULT ticks) before now heard
EndsByReply names (reply.WriteFault n) ticks before now heard = EndsToldIfMemory (fault_note WRITE_FAULT ticks) (bare WRITE_FAULT ticks) before now heard
EndsByReply names (reply.Memory n) ticks before now heard = EndsTold memory_note (bare NO_MEMORY ticks) before now heard
EndsByReply names r ticks before now heard = EndsByTold names (told_in r) ticks before now heard

-- what is done by what was answered of a line
abbrev pub OnReply : Hearing → Hearing → Reply → NotesTold → NotesTold → Option Heard → Type 0
OnReply old new r before now None = GoesOnBehind old new r before now
OnReply old new r before now (Some heard) = EndsByReply old.names r (ticks_behind old r) before now heard
