-- What lines keep.
use Rattle.std.proofs.Common.{ℕ, List, length, refl}
use Rattle.fac_base.specs.declared.limits.TheConstants.{TICKS}
use Rattle.fac_lang.specs.Phrases.{Phrase, end, then}
use Rattle.fac_lang.specs.Eval.{Result as Run, Done, Failed, Spent, Stuck}
use Rattle.fac_names.specs.declared.known.Known.{Known}
use Rattle.fac_session.specs.Sessions.{Session, Meant, waits, refuses, goes_on, meant}
use Rattle.fac_session.specs.SessionLines.{Behind, behind_waiting, of_run, of_phrase, on_meant, line_run}
use Rattle.fac_session.specs.Laws.{StandsBehind, LinesKeepWhatStands}

-- what is said of a line, and what stands behind it
abbrev Keeps : Session → List ℕ → List ℕ → Behind → Type 0
Keeps s text input b = StandsBehind s text input b b.said

run_keeps : (s : Session) (text input : List ℕ) (k : Known) (r : Run) → Keeps s text input (of_run s k TICKS r)
run_keeps s text input k (Done st left) = refl
run_keeps s text input k (Failed e st left) = record { stack = refl; waiting = refl }
run_keeps s text input k (Spent st i) = (record { stack = refl; waiting = refl }, refl)
run_keeps s text input k Stuck = record { stack = refl; waiting = refl }

phrase_keeps : (s : Session) (text input : List ℕ) (k : Known) (t : Phrase) → Keeps s text input (of_phrase s k t input)
phrase_keeps s text input k end = record { stack = refl; waiting = refl }
phrase_keeps s text input k (then i p t) = run_keeps s text input k (line_run s k.program input TICKS)

text_keeps : (s : Session) (text input : List ℕ) (m : Meant) → Keeps s text input (on_meant s text input m)
text_keeps s text input (waits at) = record { session = refl; output = refl; left = refl }
text_keeps s text input (refuses r) = record { session = refl; output = refl; left = refl }
text_keeps s text input (goes_on k) = phrase_keeps s text input k _

pub lines_keep : LinesKeepWhatStands
lines_keep source s bytes input = text_keeps s (behind_waiting s.waiting bytes) input (meant s.known (length s.stack) (source (behind_waiting s.waiting bytes)))
