-- A line out of the bytes that are kept.
use Rattle.std.specs.Prelude.{◌≡◌, ◌<◌, ◌≤◌, ℕ, List, [], ◌++◌, length, None, Some, Result, Ok, Err}
use Rattle.std.specs.declared.option.Option.{Option}
use Rattle.fac_lines.specs.declared.line_fault.LineFault.{LineFault}
use Rattle.fac_lines.specs.declared.line_fault.LineFault.TheVariants as fault
use Rattle.fac_lines.specs.LineReads.{NoLine, Line, LineTooLong, line_of}

-- the line that stands whole in the front and the piece; with none all of them are the front
abbrev pub Cuts : List ℕ → List ℕ → Result (Option (List ℕ)) LineFault → List ℕ → List ℕ → Type 0
Cuts front piece (Ok None) front' piece' = (front' ≡ front ++ piece) × (piece' ≡ [])
Cuts front piece (Ok (Some line)) front' piece' = ((behind : List ℕ) → line_of ((front ++ piece) ++ behind) ≡ Line line ((front' ++ piece') ++ behind)) × (length (front' ++ piece') < length (front ++ piece))
Cuts front piece (Err fault.TooLong) front' piece' = ((behind : List ℕ) → line_of ((front ++ piece) ++ behind) ≡ LineTooLong ((front' ++ piece') ++ behind)) × (length (front' ++ piece') < length (front ++ piece))
Cuts front piece (Err fault.Failed) front' piece' = ⊥
Cuts front piece (Err fault.Memory) front' piece' = (front' ≡ front) × (piece' ≡ piece)

-- the line that the end of the bytes ends
abbrev pub CutsRest : List ℕ → Option (List ℕ) → List ℕ → Type 0
CutsRest front None front' = (line_of front ≡ NoLine) × (front' ≡ []) × (length front' ≤ length front)
CutsRest front (Some line) front' = (line_of front ≡ Line line []) × (front' ≡ []) × (length front' < length front)
