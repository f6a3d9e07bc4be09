-- Counts of faults: a count never falls, and a fault is answered only where it rose.
use Rattle.std.specs.Prelude.{ℕ, ◌+◌, ◌-◌, ◌^◌, ◌≤◌, min}

-- one more, or the end of the type of a count
abbrev pub one_more : ℕ → ℕ
one_more count = min (count + 1) (2 ^ 64 - 1)

-- the count rose, or stands at the end of its type
abbrev pub Rose : ℕ → ℕ → Type 0
Rose before now = one_more before ≤ now

-- the count did not fall, and where a fault was answered it rose
pub record HasCause (before now : ℕ) (Answered : Type 0) : Type 0 where
  pub later : before ≤ now
  pub cause : Answered → Rose before now
