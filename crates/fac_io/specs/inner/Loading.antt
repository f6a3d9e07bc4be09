-- What inner functions of a load and a save answer.
use Rattle.std.specs.Prelude.{◌≡◌, ℕ, ◌<◌, ◌≤◌, List, length, None, Some, Result, Ok, Err, ⊤, IsSomeAnd, IsErr, Bool, true, false, ◌||◌, is_none}
use Rattle.std.specs.declared.option.Option.{Option}
use Rattle.fac_io.specs.declared.files.LoadFault.{LoadFault}
use Rattle.fac_io.specs.declared.files.LoadFault.TheVariants as load
use Rattle.fac_io.specs.declared.source.Failed.{Failed}
use Rattle.fac_io.specs.Real.{ReadsUpTo}
use Rattle.fac_io.specs.Told.{Grows, GrowsByPrefix}

-- what is loaded of what the opening of a file came to: what is read of it, or a fault where there is none
abbrev pub LoadsOpened : {F : Type 0} → (F → Option (List ℕ)) → Option F → ℕ → Result (List ℕ) LoadFault → Type 0
LoadsOpened left (Some file) limit result = ReadsUpTo (left file) limit result
LoadsOpened left None limit result = result ≡ Err load.Failed

-- what is written to what the making of a file came to: all bytes, or at a fault a front of them
abbrev pub SavesOpened : {F A : Type 0} → (F → Option (List ℕ)) → Option F → List ℕ → Result A Failed → Type 0
SavesOpened {F} held (Some file) bytes (Ok done) = (written : F) × Grows (held file) (held written) bytes
SavesOpened {F} held (Some file) bytes (Err fault) = (written : F) × GrowsByPrefix (held file) (held written) bytes
SavesOpened held None bytes result = IsErr result

-- what a load in memory answers, by whether its call is listed and by the bytes of its name
abbrev pub AnswersBytes : Bool → Option (List ℕ) → ℕ → Result (List ℕ) LoadFault → Type 0
AnswersBytes listed found limit (Ok bytes) = (listed ≡ false) × (length bytes ≤ limit) × (found ≡ Some bytes)
AnswersBytes listed found limit (Err load.TooLong) = (listed ≡ false) × IsSomeAnd found (λ bytes. limit < length bytes)
AnswersBytes listed found limit (Err load.Failed) = (listed || is_none found) ≡ true
AnswersBytes listed found limit (Err load.Memory) = ⊤
