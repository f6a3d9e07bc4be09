-- What comes next at places of code, as far as that tells which calls need no return entry.
use Rattle.std.specs.Prelude.{◌≡◌, ◌≤◌, ℕ, zero, List, Option, Some, None, slice_get}
use Rattle.fac_code.specs.declared.image.Instr.{Instr}
use Rattle.fac_code.specs.declared.image.Instr.TheVariants.{Tick, Ret, Hold, Back, Jump, Unbind}
use Rattle.fac_code.specs.declared.image.Image.{Image}
use Rattle.fac_carry.specs.Direct.{ComesTo}
use Rattle.fac_expand.specs.declared.tails.Passing.{Passing}
use Rattle.fac_expand.specs.declared.tails.Passing.TheVariants as passing
use Rattle.fac_expand.specs.declared.tails.Next.{Next}
use Rattle.fac_expand.specs.declared.tails.Next.TheVariants as next

-- how an instruction is passed that stands where what comes next is looked for
abbrev pub passing_of : Option Instr → Passing
passing_of (Some Ret) = passing.Ret
passing_of (Some Back) = passing.Back
passing_of (Some (Jump a)) = passing.Jump a
passing_of (Some (Unbind k)) = passing.Behind
passing_of (Some (Tick zero)) = passing.Behind
passing_of (Some Hold) = passing.Hold
passing_of _ = passing.Other

-- what a table tells of a place
abbrev pub or_other : Option Next → Next
or_other None = next.Other
or_other (Some x) = x

abbrev pub told : List Next → ℕ → Next
told table pc = or_other (slice_get table pc)

-- It is so where this instruction comes next at this place.
abbrev pub Agrees : Instr → ℕ → Next → Type 0
Agrees Ret b n = n ≡ next.Ret
Agrees Back b n = n ≡ next.Back b
Agrees _ b n = Unit {0}

module _ (M : Image) where
  -- what comes next at a place is this, where it is `ret` or `back`
  abbrev pub ComesNext : ℕ → Next → Type 0
  ComesNext pc n = (x : Instr) (b : ℕ) → ComesTo M x pc b → Agrees x b n

  -- a table tells it of all places from one on
  abbrev pub Tells : List Next → ℕ → Type 0
  Tells table from = (pc : ℕ) → from ≤ pc → ComesNext pc (told table pc)

  -- what comes next at a place, where that was found
  abbrev pub IsNextIf : ℕ → Option Next → Type 0
  IsNextIf pc None = Unit {0}
  IsNextIf pc (Some n) = ComesNext pc n
