-- What bytes are to a format, all of them, with a rule on the value that is no matter of bytes.
use Rattle.std.specs.Prelude.{◌≡◌, ◌⊎◌, ℕ, List, ◌++◌, length, Bool, true, false, Result, Ok, Err}
use Rattle.fac_spelling.specs.Formats.{Format, Begins, Ends}

-- the bytes are this value's
pub record Spells {A : Type 0} (f : Format A) (bytes : List ℕ) (value : A) : Type 0 where
  pub fits : f.Fits value
  pub is : bytes ≡ f.spell value

-- the same of a value that keeps the rule
pub record SpellsBy {A : Type 0} (f : Format A) (rule : A → Bool) (bytes : List ℕ) (value : A) : Type 0 where
  pub fits : f.Fits value
  pub kept : rule value ≡ true
  pub is : bytes ≡ f.spell value

-- The bytes are no value's, and their longest front with which some value's bytes begin has this length. So the byte behind it is the first
-- with which nothing goes on, or there is none.
pub record IsBroken {A : Type 0} (f : Format A) (bytes : List ℕ) (place : ℕ) : Type 0 where
  pub front : List ℕ
  pub rest : List ℕ
  pub parts : bytes ≡ front ++ rest
  pub size : length front ≡ place
  pub begins : Begins f front
  pub ends : Ends f front rest
  pub none : (y : A) → f.Fits y → bytes ≡ f.spell y → ⊥

-- the bytes are a value's that breaks the rule, and the place is their length
pub record BreaksRule {A : Type 0} (f : Format A) (rule : A → Bool) (bytes : List ℕ) (place : ℕ) : Type 0 where
  pub value : A
  pub fits : f.Fits value
  pub is : bytes ≡ f.spell value
  pub broken : rule value ≡ false
  pub size : place ≡ length bytes

-- why bytes are refused at a place: by the format, or by the rule alone
abbrev pub IsRefused : {A : Type 0} → Format A → (A → Bool) → List ℕ → ℕ → Type 0
IsRefused f rule bytes place = IsBroken f bytes place ⊎ BreaksRule f rule bytes place

-- what an answer says of the bytes
abbrev pub Says : {A : Type 0} → Format A → (A → Bool) → List ℕ → Result A ℕ → Type 0
Says f rule bytes (Ok x) = SpellsBy f rule bytes x
Says f rule bytes (Err place) = IsRefused f rule bytes place
