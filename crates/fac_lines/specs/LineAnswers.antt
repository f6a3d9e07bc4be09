-- What a call for a line answers and leaves.
use Rattle.std.specs.Prelude.{◌≡◌, ◌≤◌, ◌<◌, ℕ, List, [], ◌∷◌, ◌++◌, length, take, Bool, true, None, Some, Result, Ok, Err, ⊤}
use Rattle.std.specs.declared.option.Option.{Option}
use Rattle.std.specs.Io.KnownBytes.{prepend_known, Consumes, IsAtEnd}
use Rattle.fac_io.specs.Faults.{Rose}
use Rattle.fac_lines.specs.declared.line_fault.LineFault.{LineFault}
use Rattle.fac_lines.specs.declared.line_fault.LineFault.TheVariants as fault
use Rattle.fac_lines.specs.LineReads.{NoLine, Line, LineTooLong, line_of, IsFront}

-- the bytes left: those that are kept, and then those of the source, where it tells them
abbrev pub bytes_left : List ℕ → Option (List ℕ) → Option (List ℕ)
bytes_left kept left = prepend_known kept left

-- the answer where these bytes were left, and the bytes that are left then
abbrev pub LineAnswers : List ℕ → Result (Option (List ℕ)) LineFault → List ℕ → Type 0
LineAnswers before (Ok None) now = (line_of before ≡ NoLine) × (now ≡ [])
LineAnswers before (Ok (Some line)) now = line_of before ≡ Line line now
LineAnswers before (Err fault.TooLong) now = line_of before ≡ LineTooLong now
LineAnswers before (Err fault.Failed) now = now ≡ before
LineAnswers before (Err fault.Memory) now = now ≡ before

-- bytes that the source gave behind those that were kept: before the last of them came there was a time when the front of a line was kept
abbrev pub AreWanted : List ℕ → List ℕ → Type 0
AreWanted kept [] = ⊤
AreWanted kept (b ∷ bs) = (n : ℕ) × (n < length (b ∷ bs)) × IsFront (kept ++ take n (b ∷ bs))

-- what may come behind the bytes that a source gave: nothing where it answered that nothing is left
abbrev pub MayCome : Bool → List ℕ → Type 0
MayCome ended more = ended ≡ true → more ≡ []

-- where a source answered that nothing is left, it has nothing left, if it tells what is left
abbrev pub AtEnd : Bool → Option (List ℕ) → Type 0
AtEnd ended left = ended ≡ true → IsAtEnd left

-- an end that was reached stays, and the source isn't read again
abbrev pub StaysAtEnd : {S : Type 0} → Bool → Bool → S → S → Type 0
StaysAtEnd before now source source' = before ≡ true → (now ≡ true) × (source' ≡ source)

-- The answer is that of the bytes that were kept, those that the source gave in the call, and all others that may come behind them; what is kept now and these are left.
pub record AnswersFrom (before after : Option (List ℕ)) (was_ended is_ended : Bool) (kept : List ℕ) (answer : Result (Option (List ℕ)) LineFault) (now : List ℕ) : Type 0 where
  pub given : List ℕ
  pub consumed : Consumes before after given
  pub wanted : AreWanted kept given
  pub none : was_ended ≡ true → given ≡ []
  pub answers : (more : List ℕ) → MayCome is_ended more → LineAnswers ((kept ++ given) ++ more) answer (now ++ more)

-- where the source failed, the front of a line is kept
abbrev pub FrontWhereFailed : List ℕ → Result (Option (List ℕ)) LineFault → Type 0
FrontWhereFailed kept (Ok line) = ⊤
FrontWhereFailed kept (Err fault.TooLong) = ⊤
FrontWhereFailed kept (Err fault.Failed) = IsFront kept
FrontWhereFailed kept (Err fault.Memory) = ⊤

-- the count of the source's faults rises where it failed, and stays at each other answer
abbrev pub LineCounts : {A : Type 0} → ℕ → ℕ → Result A LineFault → Type 0
LineCounts before now (Ok line) = now ≡ before
LineCounts before now (Err fault.TooLong) = now ≡ before
LineCounts before now (Err fault.Failed) = (before ≤ now) × Rose before now
LineCounts before now (Err fault.Memory) = now ≡ before

-- the most bytes that may still come fall with each line and each line that is too long, and never rise
abbrev pub LineFalls : ℕ → ℕ → Result (Option (List ℕ)) LineFault → Type 0
LineFalls before now (Ok None) = now ≤ before
LineFalls before now (Ok (Some line)) = now < before
LineFalls before now (Err fault.TooLong) = now < before
LineFalls before now (Err fault.Failed) = now ≤ before
LineFalls before now (Err fault.Memory) = now ≤ before
