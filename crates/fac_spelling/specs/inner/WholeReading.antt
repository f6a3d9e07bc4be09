-- All of the bytes, as reading gives them.
use Rattle.std.specs.Prelude.{◌≡◌, ℕ, suc, ◌-◌, List, [], ◌∷◌, length, Bool, if◌then◌else◌, Result, Ok, Err}
use Rattle.fac_spelling.specs.declared.whole.WholeFault.{WholeFault}
use Rattle.fac_spelling.specs.declared.whole.WholeFault.TheVariants as faults
use Rattle.fac_spelling.specs.Formats.{Format}

abbrev pub finish : {A : Type 0} → (A → Bool) → ℕ → A → List ℕ → Result A ℕ
finish rule total x [] = if rule x then Ok x else Err total
finish rule total x (c ∷ cs) = Err (total - suc (length cs))

abbrev pub placed : {A : Type 0} → (A → Bool) → ℕ → Result (A × List ℕ) ℕ → Result A ℕ
placed rule total (Ok p) = finish rule total p.0 p.1
placed rule total (Err left) = Err (total - left)

-- the value that all of the bytes spell, or the place
abbrev pub all_of : {A : Type 0} → Format A → (A → Bool) → List ℕ → Result A ℕ
all_of f rule bytes = placed rule (length bytes) (f.read bytes)

abbrev pub IsAnswer : {A : Type 0} → Result A WholeFault → Result A ℕ → Type 0
IsAnswer (Ok x) read = read ≡ Ok x
IsAnswer (Err faults.Memory) read = Unit {0}
IsAnswer (Err (faults.Broken at)) read = read ≡ Err at
