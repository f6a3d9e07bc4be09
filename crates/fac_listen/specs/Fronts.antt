-- What stands behind some lines of an input.
use Rattle.std.specs.Prelude.{◌≡◌, ℕ, zero, suc, ◌+◌, List, [], ◌∷◌, ◌++◌, length, min, Option, Some, None, Result, Ok, Err}
use Rattle.std.specs.Option.{option_map}
use Rattle.fac_lines.specs.LineReads.{LineRead, NoLine, Line, LineTooLong, line_of}
use Rattle.fac_notes.specs.declared.report.Report.{Report}
use Rattle.fac_notes.specs.Sources.{Source}
use Rattle.fac_session.specs.Sessions.{Session}
use Rattle.fac_session.specs.SessionLines.{Behind, line}
use Rattle.fac_session.specs.Heard.{most_ticks, ticks_of, told_of}

-- the session behind some lines, the input behind them, what they wrote, what was told of them, and the sum of their ticks
pub record Front : Type 0 where
  pub session : Session
  pub left : List ℕ
  pub output : List ℕ
  pub told : List Report
  pub ticks : ℕ

-- before any line
abbrev pub front_of : Session → List ℕ → Front
front_of s input = record { session = s; left = input; output = []; told = []; ticks = 0 }

-- a line before those that follow it
abbrev pub with_first : Behind → Front → Front
with_first b f = record { session = f.session; left = f.left; output = b.output ++ f.output; told = told_of b.said ++ f.told; ticks = min (ticks_of b.said + f.ticks) most_ticks }

-- a line behind others
abbrev pub with_last : Front → Behind → Front
with_last f b = record { session = b.session; left = b.left; output = f.output ++ b.output; told = f.told ++ told_of b.said; ticks = min (f.ticks + ticks_of b.said) most_ticks }

-- what stands behind the first of some lines and those that follow it, where it is there
abbrev pub behind_first : (List ℕ → Source) → Session → (Session → List ℕ → Option Front) → LineRead → Option Front
behind_first source s follow NoLine = None
behind_first source s follow (LineTooLong rest) = None
behind_first source s follow (Line bytes rest) = let b = line source s bytes rest in option_map (with_first b) (follow b.session b.left)

-- so many lines of an input behind a session, where it has as many
abbrev pub lines_behind : (List ℕ → Source) → ℕ → Session → List ℕ → Option Front
lines_behind source zero s input = Some (front_of s input)
lines_behind source (suc n) s input = behind_first source s (lines_behind source n) (line_of input)

-- what is left where a line begins with this, by what is left behind those that follow it
abbrev pub left_by : (List ℕ → Source) → Session → (Session → List ℕ → List ℕ) → LineRead → List ℕ
left_by source s follow NoLine = []
left_by source s follow (LineTooLong rest) = rest
left_by source s follow (Line bytes rest) = let b = line source s bytes rest in follow b.session b.left

-- What is left of the input at the end of a session, in at most so many lines: nothing, or what stands behind the front of a line that is too long.
abbrev pub left_behind : (List ℕ → Source) → ℕ → Session → List ℕ → List ℕ
left_behind source zero s input = input
left_behind source (suc n) s input = left_by source s (left_behind source n) (line_of input)

-- where the prelude is refused, nothing is taken
abbrev pub left_from : (List ℕ → Source) → List ℕ → Result Session Report → List ℕ
left_from source input (Err why) = input
left_from source input (Ok s) = left_behind source (suc (length input)) s input

-- This stands behind some lines of an input, from its session on.
pub record StandsBehindLines (source : List ℕ → Source) (s : Session) (input : List ℕ) (f : Front) : Type 0 where
  pub count : ℕ
  pub are : lines_behind source count s input ≡ Some f

-- a line of an input, from a session on: what stands before it, its bytes, and the input behind it
pub record LineOf (source : List ℕ → Source) (s : Session) (input : List ℕ) : Type 0 where
  pub front : Front
  pub stands : StandsBehindLines source s input front
  pub bytes : List ℕ
  pub rest : List ℕ
  pub is_line : line_of front.left ≡ Line bytes rest

-- what it comes to
abbrev pub comes_to : {source : List ℕ → Source} {s : Session} {input : List ℕ} → LineOf source s input → Behind
comes_to {source} l = line source l.front.session l.bytes l.rest
