-- The cases of a type: a tag, and the numbers behind it.
use Rattle.std.specs.Prelude.{ℕ, List, [], ◌∷◌, length, get_or, drop, Bool, true, false}
use Rattle.fac_spelling.specs.Formats.{Format, follow, seen, run}
use Rattle.fac_spelling.specs.Numbers.{number}

-- a number for each of these greatest values
abbrev pub operands : List ℕ → Format (List ℕ)
operands greatest = run {S = List ℕ} (λ _ s. number 0 (get_or s 0 0)) (λ s _. drop 1 s) (length greatest) greatest

-- a case of a type: the greatest value of each number behind the tag, and the value that they make
pub record Row (A : Type 0) : Type 0 where
  pub greatest : List ℕ
  pub make : List ℕ → A

abbrev pub row_at : {A : Type 0} → Row A → List (Row A) → ℕ → Row A
row_at first others k = get_or (first ∷ others) k first

-- A tag, which is the place of the value's row, and the numbers of the row. `parts` gives both back.
abbrev pub choice : {A : Type 0} → Row A → List (Row A) → (A → ℕ × List ℕ) → Format A
choice first others parts = seen parts (λ p. (row_at first others p.0).make p.1) (follow (number 0 (length others)) (λ k. operands (row_at first others k).greatest))

-- ---- rows by shape

abbrev pub bit : Bool → ℕ
bit true = 1
bit false = 0

abbrev pub operand_at : ℕ → List ℕ → ℕ
operand_at k xs = get_or xs k 0

-- no number
abbrev pub plain : {A : Type 0} → A → Row A
plain x = record { greatest = []; make = λ _. x }

-- a number up to the greatest
abbrev pub with_number : {A : Type 0} → ℕ → (ℕ → A) → Row A
with_number greatest f = record { greatest = greatest ∷ []; make = λ xs. f (operand_at 0 xs) }

abbrev pub with_numbers : {A : Type 0} → ℕ → ℕ → (ℕ → ℕ → A) → Row A
with_numbers one two f = record { greatest = one ∷ two ∷ []; make = λ xs. f (operand_at 0 xs) (operand_at 1 xs) }
