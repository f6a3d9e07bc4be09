-- What is answered of a line.
use Rattle.std.specs.Prelude.{◌≡◌, ◌⊎◌, ℕ, List, [], length, Result, Ok, Err, Bool, true, false}
use Rattle.fac_base.specs.declared.limits.TheConstants.{TICKS}
use Rattle.fac_io.specs.Told.{SinkTold, Grows}
use Rattle.fac_lang.specs.Meaning.{word_phrase}
use Rattle.fac_lang.specs.Phrases.{Phrase, end, then}
use Rattle.fac_names.specs.declared.known.Known.{Known}
use Rattle.fac_notes.specs.Sources.{Source}
use Rattle.fac_prelude.specs.PreludeText.{prelude_text}
use Rattle.fac_session.specs.Sessions.{Session, Meant, waits, refuses, goes_on, meant, session_of}
use Rattle.fac_session.specs.SessionLines.{Said, more, defined, ran, refused, failed, spent, Behind, behind_waiting, line_run, on_meant}
use Rattle.fac_judge.specs.KnownTexts.{IsPreludeRefusal}
use Rattle.fac_listener.specs.CutRuns.{InputFaultInRun, FaultInRun, FaultBehindRun, RunPieces, WantedBefore, WantedWithRun, stack_behind}
use Rattle.fac_listener.specs.StandingSessions.{Stands}
use Rattle.fac_judge.specs.TextSources.{IsReadAs}
use Rattle.fac_judge.specs.declared.known_texts.SessionFault.{SessionFault}
use Rattle.fac_judge.specs.declared.known_texts.SessionFault.TheVariants as fault
use Rattle.fac_listener.specs.declared.reply.Reply.{Reply}
use Rattle.fac_listener.specs.declared.reply.Reply.TheVariants as reply
use Rattle.fac_listener.specs.declared.session.Session.{Session as SessionSeen}

-- what every text comes to as file 1
abbrev pub AreSources : (List ℕ → Source) → Type 0
AreSources source = (text : List ℕ) → IsReadAs 1 text (source text)

-- The first session.

pub record IsFirstSession (code : SessionSeen) : Type 0 where
  pub source : Source
  pub is_read : IsReadAs 0 prelude_text source
  pub session : Session
  pub is : session_of source ≡ Ok session
  pub stands : Stands session code

-- what is answered where a session is to begin
abbrev pub StartsSession : Result SessionSeen SessionFault → Type 0
StartsSession (Ok code) = IsFirstSession code
StartsSession (Err (fault.Prelude why)) = IsPreludeRefusal why
StartsSession (Err fault.Memory) = Unit {0}

-- Lines.

-- A line comes to this: what is said of it is what is answered, its session stands, its output was written, and this is left of the input.
pub record IsAnswer (b : Behind) (said : Said) (before now : SinkTold) (code : SessionSeen) (left : List ℕ) : Type 0 where
  pub said_is : b.said ≡ said
  pub stands : Stands b.session code
  pub output : Grows before.taken now.taken b.output
  pub left_is : left ≡ b.left

-- Something is so of the phrase of a text: the text was accepted, and the phrase has an item.
abbrev pub OfItems : Phrase → Type 0 → Type 0
OfItems end Holds = ⊥
OfItems (then i p t) Holds = Holds

abbrev pub OfPhrase : Meant → (Known → Type 0) → Type 0
OfPhrase (waits at) Holds = ⊥
OfPhrase (refuses why) Holds = ⊥
OfPhrase (goes_on k) Holds = OfItems (word_phrase k.program k.program.top) (Holds k)

-- what cuts a line short: a fault of the input or the output, or want of memory
pub data Cause : Type 0 where
  by_input : Cause
  by_output : Cause
  by_memory : Cause

-- A line was cut short, with so many ticks of its phrase, and this was left of the input behind it: by the input in the run of its phrase, by the output there or where
-- the stack is written behind it, or for want of memory before the run, in it, or behind it.
abbrev pub IsCutShort : Cause → Meant → Session → List ℕ → List ℕ → ℕ → SinkTold → SinkTold → Type 0
IsCutShort by_input m s input left ticks before now = OfPhrase m (λ k. InputFaultInRun (line_run s k.program input) left ticks before now)
IsCutShort by_output m s input left ticks before now =
    OfPhrase m (λ k. FaultInRun (line_run s k.program input) left ticks before now ⊎ FaultBehindRun k.program (line_run s k.program input) left ticks before now)
IsCutShort by_memory m s input left ticks before now = WantedBefore input left ticks before now ⊎ OfPhrase m (λ k. WantedWithRun (line_run s k.program input) left ticks before now)

module _ (s : Session) (text : List ℕ) (m : Meant) where
  -- what is answered of a text that comes to this: what a line comes to with it, or how far it came
  abbrev pub TextReplies : SinkTold → SinkTold → SessionSeen → Reply → List ℕ → List ℕ → Type 0
  TextReplies before now code (reply.More why) input left = IsAnswer (on_meant s text input m) (more why) before now code left
  TextReplies before now code reply.Defined input left = IsAnswer (on_meant s text input m) defined before now code left
  TextReplies before now code (reply.Ran n) input left = IsAnswer (on_meant s text input m) (ran n) before now code left
  TextReplies before now code (reply.Refused why) input left = IsAnswer (on_meant s text input m) (refused why) before now code left
  TextReplies before now code (reply.Failed why n) input left = IsAnswer (on_meant s text input m) (failed why n) before now code left
  TextReplies before now code (reply.Spent n) input left = IsAnswer (on_meant s text input m) (spent n) before now code left
  TextReplies before now code (reply.InputFault n) input left = IsCutShort by_input m s input left n before now
  TextReplies before now code (reply.WriteFault n) input left = IsCutShort by_output m s input left n before now
  TextReplies before now code (reply.Memory n) input left = IsCutShort by_memory m s input left n before now

-- What is answered of a line with these bytes: what `line` comes to, or how far it came.
abbrev pub Replies : (List ℕ → Source) → Session → List ℕ → SinkTold → SinkTold → SessionSeen → Reply → List ℕ → List ℕ → Type 0
Replies source s bytes = let text = behind_waiting s.waiting bytes in TextReplies s text (meant s.known (length s.stack) (source text))

-- In which pieces the output of a line was taken that wasn't cut short: one for each item of its phrase that writes, and behind a phrase that ran one for its stack. A
-- text without a phrase writes nothing. Where a line was cut short, `IsCutShort` tells the pieces.
abbrev pub AnswerPieces : Meant → Session → List ℕ → SinkTold → SinkTold → Reply → Type 0
AnswerPieces m s input before now (reply.Ran n) = OfPhrase m (λ k. RunPieces (line_run s k.program input) n (stack_behind k.program (line_run s k.program input TICKS)) before now)
AnswerPieces m s input before now (reply.Failed why n) = OfPhrase m (λ k. RunPieces (line_run s k.program input) n [] before now)
AnswerPieces m s input before now (reply.Spent n) = OfPhrase m (λ k. RunPieces (line_run s k.program input) n [] before now)
AnswerPieces m s input before now (reply.More why) = now ≡ before
AnswerPieces m s input before now reply.Defined = now ≡ before
AnswerPieces m s input before now (reply.Refused why) = now ≡ before
AnswerPieces m s input before now (reply.InputFault n) = Unit {0}
AnswerPieces m s input before now (reply.WriteFault n) = Unit {0}
AnswerPieces m s input before now (reply.Memory n) = Unit {0}

abbrev pub LinePieces : (List ℕ → Source) → Session → List ℕ → List ℕ → SinkTold → SinkTold → Reply → Type 0
LinePieces source s bytes = AnswerPieces (meant s.known (length s.stack) (source (behind_waiting s.waiting bytes))) s

-- the input or the output failed
abbrev pub IsInputFault : Reply → Type 0
IsInputFault (reply.InputFault n) = Unit {0}
IsInputFault _ = ⊥

abbrev pub IsWriteFault : Reply → Type 0
IsWriteFault (reply.WriteFault n) = Unit {0}
IsWriteFault _ = ⊥

-- whether a session has ended with a reply
abbrev pub ends_session : Reply → Bool
ends_session (reply.InputFault n) = true
ends_session (reply.WriteFault n) = true
ends_session (reply.Memory n) = true
ends_session _ = false
