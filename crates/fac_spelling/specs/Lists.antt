-- Lists behind their length, lists that ascend, and options.
use Rattle.std.specs.Prelude.{ℕ, ◌+◌, ◌-◌, ◌^◌, List, [], ◌∷◌, length, Option, Some, None}
use Rattle.fac_spelling.specs.Formats.{Format, follow, seen, run, each}
use Rattle.fac_spelling.specs.Numbers.{number, number32}

-- a list's length and then so many values
abbrev pub behind_length : {A : Type 0} → (ℕ → Format (List A)) → Format (List A)
behind_length f = seen (λ xs. (length xs, xs)) (λ p. p.1) (follow number32 f)

abbrev pub counted : {A : Type 0} → Format A → Format (List A)
counted f = behind_length (λ n. each n f)

-- So many numbers below 2 ^ 32, each from `least` on and above those before it. Each leaves room for those after it.
abbrev pub ascend : ℕ → ℕ → Format (List ℕ)
ascend n least = run (λ after low. number low (2 ^ 32 - 1 - after)) (λ _ x. x + 1) n least

-- so many pairs whose keys ascend so
abbrev pub ascend_by : {A : Type 0} → Format A → ℕ → ℕ → Format (List (ℕ × A))
ascend_by f n least = run (λ after low. follow (number low (2 ^ 32 - 1 - after)) (λ _. f)) (λ _ x. x.0 + 1) n least

abbrev pub ascending : Format (List ℕ)
ascending = behind_length (λ n. ascend n 0)

abbrev pub ascending_by : {A : Type 0} → Format A → Format (List (ℕ × A))
ascending_by f = behind_length (λ n. ascend_by f n 0)

-- an option is a list of at most one
abbrev pub option_list : {A : Type 0} → Option A → List A
option_list None = []
option_list (Some x) = x ∷ []

abbrev pub list_option : {A : Type 0} → List A → Option A
list_option [] = None
list_option (x ∷ xs) = Some x

-- 0, or 1 and a value
abbrev pub optional : {A : Type 0} → Format A → Format (Option A)
optional f = seen (λ o. (length (option_list o), option_list o)) (λ p. list_option p.1) (follow (number 0 1) (λ n. each n f))
