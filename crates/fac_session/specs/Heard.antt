-- What all lines of an input come to.
use Rattle.std.specs.Prelude.{ℕ, zero, suc, ◌+◌, ◌-◌, ◌^◌, min, List, [], ◌∷◌, ◌++◌, length, map, Option, Some, None, Result, Ok, Err, codes}
use Rattle.std.specs.List.{concat}
use Rattle.fac_base.specs.declared.limits.TheConstants.{MOST_LINE_BYTES}
use Rattle.fac_lines.specs.LineReads.{NoLine, Line, LineTooLong, line_of}
use Rattle.fac_notes.specs.declared.report.Report.{Report}
use Rattle.fac_notes.specs.declared.report.Report.TheVariants as report
use Rattle.fac_notes.specs.declared.status.TheConstants.{SUCCESS, SYNTAX_REFUSED}
use Rattle.fac_notes.specs.Notes.{line_of as note_of}
use Rattle.fac_notes.specs.Sources.{Source, no_tree}
use Rattle.fac_notes.specs.Statuses.{status_of}
use Rattle.fac_session.specs.Sessions.{Session, session_of}
use Rattle.fac_session.specs.SessionLines.{Said, ran, refused, failed, spent, Behind, line}

-- a status with the ticks and the refusal with which the session ends, what is written, and the reports that are told before the end
pub record Heard : Type 0 where
  pub status : ℕ
  pub ticks : ℕ
  pub refusal : Option Report
  pub output : List ℕ
  pub told : List Report

abbrev pub ended_with : ℕ → Option Report → Heard
ended_with status refusal = record { status = status; ticks = 0; refusal = refusal; output = []; told = [] }

-- the ticks of a line
abbrev pub ticks_of : Said → ℕ
ticks_of (ran n) = n
ticks_of (failed r n) = n
ticks_of (spent n) = n
ticks_of _ = 0

-- what is told of a line
abbrev pub told_of : Said → List Report
told_of (refused r) = r ∷ []
told_of (failed r n) = r ∷ []
told_of (spent n) = report.Spent n ∷ []
told_of _ = []

-- a sum of ticks stays at this number where it would pass it
abbrev pub most_ticks : ℕ
most_ticks = 2 ^ 64 - 1

-- a line before those that follow it
abbrev pub before : Behind → Heard → Heard
before b h = record { status = h.status; ticks = min (ticks_of b.said + h.ticks) most_ticks; refusal = h.refusal; output = b.output ++ h.output; told = told_of b.said ++ h.told }

-- what the text that waits at the end of the input comes to; it has no tree, and its end is wanted at a token
abbrev pub at_end : List ℕ → Source → Heard
at_end [] source = ended_with SUCCESS None
at_end (b ∷ bs) (no_tree at reason) = ended_with SYNTAX_REFUSED (Some (report.Syntax 1 at reason))
at_end (b ∷ bs) _ = ended_with SUCCESS None

abbrev pub too_long : Report
too_long = report.TooLong (codes "listener") MOST_LINE_BYTES

-- From a session on this input, in at most so many lines. Each takes a byte at least, so more than there are bytes is enough.
abbrev pub heard : (List ℕ → Source) → ℕ → Session → List ℕ → Heard
heard source zero s input = ended_with SUCCESS None
heard source (suc n) s input =
    elim (line_of input) [
      | NoLine ↦ at_end s.waiting (source s.waiting)
      | LineTooLong rest ↦ ended_with SYNTAX_REFUSED (Some too_long)
      | Line bytes rest ↦ let b = line source s bytes rest in before b (heard source n b.session b.left)
    ]

abbrev pub heard_from : (List ℕ → Source) → List ℕ → Result Session Report → Heard
heard_from source input (Err r) = ended_with (status_of r) (Some r)
heard_from source input (Ok s) = heard source (suc (length input)) s input

-- What `listen` comes to on an input, by what the prelude comes to as file 0 and texts as file 1.
abbrev pub listened : Source → (List ℕ → Source) → List ℕ → Heard
listened prelude source input = heard_from source input (session_of prelude)

-- The notes.

-- the names of the two files
abbrev pub file_names : List (List ℕ)
file_names = codes "prelude" ∷ codes "listener" ∷ []

-- the note of the refusal with which a session ends
abbrev pub last_note : Option Report → List ℕ
last_note None = []
last_note (Some (report.TooLong name limit)) = codes "syntax: listener line too long\n"
last_note (Some r) = note_of file_names r

-- all notes: a line for each report
abbrev pub notes_of : Heard → List ℕ
notes_of h = concat (map (note_of file_names) h.told) ++ last_note h.refusal
