-- What a call on all of the bytes answers, by cases.
use Rattle.std.specs.Prelude.{◌≡◌, ℕ, Result, Ok, Err}
use Rattle.fac_spelling.specs.declared.whole.WholeFault.{WholeFault}
use Rattle.fac_spelling.specs.declared.whole.WholeFault.TheVariants as faults

-- the value is such a one
abbrev pub IsFound : {A : Type 0} → Result A WholeFault → (A → Type 0) → Type 0
IsFound (Ok x) P = P x
IsFound (Err e) P = Unit {0}

-- unless memory ran out, it is this value
abbrev pub IsOnly : {A : Type 0} → Result A WholeFault → A → Type 0
IsOnly (Ok x) other = x ≡ other
IsOnly (Err faults.Memory) other = Unit {0}
IsOnly (Err (faults.Broken at)) other = ⊥

-- the place is such a one
abbrev pub IsPlace : {A : Type 0} → Result A WholeFault → (ℕ → Type 0) → Type 0
IsPlace (Ok x) P = Unit {0}
IsPlace (Err faults.Memory) P = Unit {0}
IsPlace (Err (faults.Broken at)) P = P at
