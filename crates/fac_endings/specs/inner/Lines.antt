-- Lines of parents in which each parent has a lower number than its heir. They are taken from line to line, in a table that grows with the classes.
use Rattle.std.specs.Prelude.{◌≡◌, ◌<◌, ℕ, List, [], ◌∷◌, length, slice_get, Option, Some, None, Bool, true, false}
use Rattle.fac_lang.specs.Classes.{shape_at, parent_in}
use Rattle.fac_lang.specs.declared.program.ClassDef.{ClassDef}
use Rattle.fac_endings.specs.ClassTable.{slots_at}

-- a class in front of others, where it has these slots
abbrev pub and_bearer : List (List ℕ) → ℕ → List ℕ → List ℕ
and_bearer [] c bs = bs
and_bearer (s ∷ slots) c bs = c ∷ bs

-- The parents of a class that have slots, the nearest first, where each parent has a lower number than its heir.
pub data Line (cs : List ClassDef) : ℕ → List ℕ → Type 0 where
  topmost : {c : ℕ} {line : List ℕ} → parent_in (shape_at cs c) ≡ None → line ≡ [] → Line cs c line
  heir : {c : ℕ} {line : List ℕ} (p : ℕ) (bs : List ℕ) → parent_in (shape_at cs c) ≡ Some p → p < c → Line cs p bs → line ≡ and_bearer (slots_at cs p) p bs → Line cs c line

-- a line that may not be known
abbrev pub IsLine : List ClassDef → ℕ → Option (List ℕ) → Type 0
IsLine cs c None = Unit {0}
IsLine cs c (Some bs) = Line cs c bs

-- the line of a class with this parent, as far as it isn't too long to be kept
abbrev pub GoesUnder : List ClassDef → ℕ → List ℕ → Option (List ℕ) → Type 0
GoesUnder cs p above None = Unit {0}
GoesUnder cs p above (Some bs) = bs ≡ and_bearer (slots_at cs p) p above

abbrev pub line_in : Option (Option (List ℕ)) → Option (List ℕ)
line_in None = None
line_in (Some line) = line

-- what a table has for a class
abbrev pub line_at : List (Option (List ℕ)) → ℕ → Option (List ℕ)
line_at lines c = line_in (slice_get lines c)

-- The lines of the first classes, for each its own where it is known.
pub record AreLines (cs : List ClassDef) (n : ℕ) (lines : List (Option (List ℕ))) : Type 0 where
  pub counted : length lines ≡ n
  pub each : (c : ℕ) (bs : List ℕ) → line_at lines c ≡ Some bs → Line cs c bs

-- that a class has a line
abbrev pub HasLine : List ClassDef → ℕ → Type 0
HasLine cs c = (bs : List ℕ) × Line cs c bs

-- where a flag is up, its class has a line
abbrev pub IsSettled : List ClassDef → ℕ → Bool → Type 0
IsSettled cs c true = HasLine cs c
IsSettled cs c false = Unit {0}

abbrev pub flag_in : Option Bool → Bool
flag_in None = false
flag_in (Some flag) = flag

-- flags of the first classes
pub record AreSettled (cs : List ClassDef) (n : ℕ) (flags : List Bool) : Type 0 where
  pub counted : length flags ≡ n
  pub each : (c : ℕ) → slice_get flags c ≡ Some true → HasLine cs c
