-- What a reader of the code returns, against what reading gives.
use Rattle.std.specs.Prelude.{◌≡◌, ℕ, Result, Ok, Err}
use Rattle.fac_spelling.specs.declared.fault.ReadFault.{ReadFault}
use Rattle.fac_spelling.specs.declared.fault.ReadFault.TheVariants as faults

-- unless memory ran out, reading fails with so many bytes left
abbrev pub Fails : {Y : Type 0} → ReadFault → Result Y ℕ → Type 0
Fails faults.Memory read = Unit {0}
Fails (faults.Refused left) read = read ≡ Err left

-- what was returned, seen by view, is what reading gives
abbrev pub Gives : {X Y : Type 0} → (X → Y) → Result X ReadFault → Result Y ℕ → Type 0
Gives view (Ok x) read = read ≡ Ok (view x)
Gives view (Err e) read = Fails e read

-- a reader that asks for no memory
abbrev pub NoMemory : {X : Type 0} → Result X ReadFault → Type 0
NoMemory (Ok x) = Unit {0}
NoMemory (Err faults.Memory) = ⊥
NoMemory (Err (faults.Refused left)) = Unit {0}
