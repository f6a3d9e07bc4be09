-- What the real files give and take, by what the readers and writers under them tell, and how the real forms count.
use Rattle.std.specs.Prelude.{◌≡◌, ◌<◌, ◌≤◌, ℕ, List, length, Result, Ok, Err, ⊤, IfSome}
use Rattle.std.specs.declared.option.Option.{Option}
use Rattle.fac_io.specs.declared.files.LoadFault.{LoadFault}
use Rattle.fac_io.specs.declared.files.LoadFault.TheVariants as load
use Rattle.fac_io.specs.declared.files.SaveFault.{SaveFault}
use Rattle.fac_io.specs.declared.files.SaveFault.TheVariants as save
use Rattle.fac_io.specs.Faults.{one_more}
use Rattle.fac_io.specs.Told.{Grows}

-- what is read of a reader with these bytes left, where they are known: all of them, or that they are more than the limit
abbrev pub ReadsUpTo : Option (List ℕ) → ℕ → Result (List ℕ) LoadFault → Type 0
ReadsUpTo left limit (Ok bytes) = (length bytes ≤ limit) × IfSome left (λ all. all ≡ bytes)
ReadsUpTo left limit (Err load.TooLong) = IfSome left (λ all. limit < length all)
ReadsUpTo left limit (Err load.Failed) = ⊤
ReadsUpTo left limit (Err load.Memory) = ⊤

-- a load read a file that was opened: all that it had left, or it had more than the limit
abbrev pub LoadsFile : {F : Type 0} → (F → Option (List ℕ)) → ℕ → Result (List ℕ) LoadFault → Type 0
LoadsFile {F} left limit (Ok bytes) = (opened : F) × ReadsUpTo (left opened) limit (Ok bytes)
LoadsFile {F} left limit (Err load.TooLong) = (opened : F) × ReadsUpTo (left opened) limit (Err load.TooLong)
LoadsFile left limit (Err load.Failed) = ⊤
LoadsFile left limit (Err load.Memory) = ⊤

-- a save wrote its bytes to a file that was made, behind what that held; it takes no memory
abbrev pub SavesFile : {F A : Type 0} → (F → Option (List ℕ)) → List ℕ → Result A SaveFault → Type 0
SavesFile {F} held bytes (Ok done) = (made written : F) × Grows (held made) (held written) bytes
SavesFile held bytes (Err save.Failed) = ⊤
SavesFile held bytes (Err save.Memory) = ⊥

-- a failure is counted once, and nothing else is
abbrev pub CountsOnce : {A E : Type 0} → ℕ → ℕ → Result A E → Type 0
CountsOnce before now (Ok done) = now ≡ before
CountsOnce before now (Err fault) = now ≡ one_more before
