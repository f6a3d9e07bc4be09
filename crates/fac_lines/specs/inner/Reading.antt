-- Reading for a line.
use Rattle.std.specs.Prelude.{◌≡◌, ◌≤◌, ◌+◌, ℕ, List, [], ◌++◌, length, Bool, Result, Ok, Err}
use Rattle.std.specs.declared.option.Option.{Option}
use Rattle.std.specs.Io.KnownBytes.{Consumes, Keeps, IsAtEnd}
use Rattle.fac_io.specs.Faults.{Rose}
use Rattle.fac_lines.specs.declared.line_fault.LineFault.{LineFault}
use Rattle.fac_lines.specs.declared.line_fault.LineFault.TheVariants as fault
use Rattle.fac_lines.specs.LineAnswers.{AreWanted, AnswersFrom, FrontWhereFailed}

-- a piece has the bytes of one read
abbrev pub Fills : Option (List ℕ) → Option (List ℕ) → Result ℕ LineFault → List ℕ → Type 0
Fills before after (Ok count) piece = Consumes before after piece × (length piece ≡ count) × (count ≡ 0 → IsAtEnd after)
Fills before after (Err fault.TooLong) piece = ⊥
Fills before after (Err fault.Failed) piece = Keeps before after × (piece ≡ [])
Fills before after (Err fault.Memory) piece = Keeps before after × (piece ≡ [])

abbrev pub FillCounts : ℕ → ℕ → Result ℕ LineFault → Type 0
FillCounts before now (Ok count) = now ≡ before
FillCounts before now (Err fault.TooLong) = ⊥
FillCounts before now (Err fault.Failed) = (before ≤ now) × Rose before now
FillCounts before now (Err fault.Memory) = now ≡ before

abbrev pub FillFalls : ℕ → ℕ → Result ℕ LineFault → Type 0
FillFalls before now (Ok count) = now + count ≤ before
FillFalls before now (Err fault) = now ≤ before

-- what was read so far behind the front of a line, all of which is the front of a line now
pub record ReadsOn (before after : Option (List ℕ)) (front front' : List ℕ) : Type 0 where
  pub given : List ℕ
  pub consumed : Consumes before after given
  pub wanted : AreWanted front given
  pub all : front' ≡ front ++ given

-- the answer where bytes were read behind the front of a line, and the bytes that are kept then
pub record ReadsLine (before after : Option (List ℕ)) (was_ended is_ended : Bool) (front : List ℕ) (answer : Result (Option (List ℕ)) LineFault) (now : List ℕ) : Type 0 where
  pub from : AnswersFrom before after was_ended is_ended front answer now
  pub failed : FrontWhereFailed now answer
