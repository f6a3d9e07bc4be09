-- What the calls of a folder answer and leave.
use Rattle.std.specs.Prelude.{◌≡◌, ℕ, ◌<◌, ◌≤◌, List, [], ◌∷◌, length, Some, Result, Ok, Err, ⊤, IfSome, IsSomeAnd}
use Rattle.std.specs.declared.option.Option.{Option}
use Rattle.fac_io.specs.declared.files.Asked.{Asked}
use Rattle.fac_io.specs.declared.files.Asked.TheVariants.{Load, Save}
use Rattle.fac_io.specs.declared.files.LoadFault.{LoadFault}
use Rattle.fac_io.specs.declared.files.LoadFault.TheVariants as load
use Rattle.fac_io.specs.declared.files.SaveFault.{SaveFault}
use Rattle.fac_io.specs.declared.files.SaveFault.TheVariants as save
use Rattle.fac_io.specs.Faults.{Rose}
use Rattle.fac_io.specs.Names.{Held, OthersKept, Holds}
use Rattle.fac_io.specs.Told.{Told, Stays, Grows}

-- the bytes of the name, or that they are more than the limit
abbrev pub LoadAnswers : Option Held → List ℕ → ℕ → Result (List ℕ) LoadFault → Type 0
LoadAnswers held name limit (Ok bytes) = (length bytes ≤ limit) × IfSome held (λ files. files name ≡ Some bytes)
LoadAnswers held name limit (Err load.TooLong) = IfSome held (λ files. IsSomeAnd (files name) (λ bytes. limit < length bytes))
LoadAnswers held name limit (Err load.Failed) = ⊤
LoadAnswers held name limit (Err load.Memory) = ⊤

-- a call for want of memory is not in the list of calls
abbrev pub LoadAsks : List ℕ → Option (List Asked) → Option (List Asked) → Result (List ℕ) LoadFault → Type 0
LoadAsks name old new (Ok bytes) = Grows old new (Load name ∷ [])
LoadAsks name old new (Err load.TooLong) = Grows old new (Load name ∷ [])
LoadAsks name old new (Err load.Failed) = Grows old new (Load name ∷ [])
LoadAsks name old new (Err load.Memory) = Stays old new

-- the count of faults rises where the load failed, and stays at each other answer
abbrev pub LoadCounts : ℕ → ℕ → Result (List ℕ) LoadFault → Type 0
LoadCounts before now (Ok bytes) = now ≡ before
LoadCounts before now (Err load.TooLong) = now ≡ before
LoadCounts before now (Err load.Failed) = (before ≤ now) × Rose before now
LoadCounts before now (Err load.Memory) = now ≡ before

-- the name holds the bytes, or nothing is known of it after a fault
abbrev pub SaveLeaves : {A : Type 0} → List ℕ → List ℕ → Option Held → Option Held → Result A SaveFault → Type 0
SaveLeaves name bytes old new (Ok done) = Told old new (Holds name bytes)
SaveLeaves name bytes old new (Err save.Failed) = Told old new (OthersKept name)
SaveLeaves name bytes old new (Err save.Memory) = Stays old new

abbrev pub SaveAsks : {A : Type 0} → List ℕ → Option (List Asked) → Option (List Asked) → Result A SaveFault → Type 0
SaveAsks name old new (Ok done) = Grows old new (Save name ∷ [])
SaveAsks name old new (Err save.Failed) = Grows old new (Save name ∷ [])
SaveAsks name old new (Err save.Memory) = Stays old new

-- the count of faults rises where the save failed, and stays at each other answer
abbrev pub SaveCounts : {A : Type 0} → ℕ → ℕ → Result A SaveFault → Type 0
SaveCounts before now (Ok done) = now ≡ before
SaveCounts before now (Err save.Failed) = (before ≤ now) × Rose before now
SaveCounts before now (Err save.Memory) = now ≡ before
