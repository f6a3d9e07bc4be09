-- What the checker promises of a program that it accepts, and how it answers.
use Rattle.std.specs.Prelude.{◌≡◌, Some, Result, Ok, Err}
use Rattle.fac_locals.specs.declared.closing.Closed.{Closed}
use Rattle.fac_check.specs.Verdicts.{verdict}
use Rattle.fac_check.specs.Promises.{IsSafe}
use Rattle.fac_check.specs.Judged.{OfEach, IsAccepted, refusal_seen}
use Rattle.fac_check.specs.declared.accepted.Checked.{Checked}
use Rattle.fac_check.specs.declared.refusal.Refusal.{Refusal}

-- each whole program for which this stands is safe, with its top-level phrase on as many values as this starts on
abbrev pub IsKept : Closed → Type 0
IsKept closed = OfEach closed (λ P. IsSafe P closed.start)

-- the closed program itself, whose program is accepted and safe; or the first refused word in source order, with its first rule and place
abbrev pub Gathers : Closed → Result Checked Refusal → Type 0
Gathers closed (Ok checked) = (checked.closed ≡ closed) × IsAccepted closed × IsKept closed
Gathers closed (Err refusal) = OfEach closed (λ P. verdict P closed.start ≡ Some (refusal_seen refusal))
