-- Which number a row of an effect has, where a row is the base of a stack.
use Rattle.std.specs.Prelude.{ℕ, suc, List, [], ◌∷◌, Bool, true, false, ◌||◌, Option, Some, None, ◌≡◌}
use Rattle.std.specs.Str.{bytes_eq}
use Rattle.fac_base.specs.Signatures.{Signature, signature, Inputs, no_inputs, value, quoted, Leaving, never, leaves}
use Rattle.fac_abs.specs.RowVariables.{Row, hidden, named_row, row_name, effect_leaving}
use Rattle.fac_abs.specs.MarkTrees.{Naming}

-- the row variable of an output side
abbrev pub leaving_name : Leaving → Option (List ℕ)
leaving_name never = None
leaving_name (leaves r names) = r

-- the row variables of both sides of the effect of each quotation input
abbrev pub inputs_sides : Inputs → List (Option (List ℕ))
inputs_sides no_inputs = []
inputs_sides (value y is) = inputs_sides is
inputs_sides (quoted y e is) = row_name e ∷ leaving_name (effect_leaving e) ∷ inputs_sides is

-- the row variables of the sides of an effect: of its own two, and then of those of its quotation inputs
abbrev pub sides : Signature → List (Option (List ℕ))
sides (signature r is l) = r ∷ leaving_name l ∷ inputs_sides is

-- whether a side has the row variable of this name
abbrev pub is_named : List ℕ → Option (List ℕ) → Bool
is_named x None = false
is_named x (Some y) = bytes_eq x y

-- whether one of these sides has it
abbrev pub is_among : List ℕ → List (Option (List ℕ)) → Bool
is_among x [] = false
is_among x (s ∷ ss) = is_named x s || is_among x ss

-- the number of the first side that has it, where the first of all has number n
abbrev pub side_number : ℕ → List ℕ → List (Option (List ℕ)) → ℕ
side_number n x [] = n
side_number n x (s ∷ ss) = elim (is_named x s) [ true ↦ n | false ↦ side_number (suc n) x ss ]

-- The number of a row of an effect: 0 for the hidden one, and for a row variable that of the first side that has it, counted from 1.
abbrev pub row_number : Signature → Row → ℕ
row_number e hidden = 0
row_number e (named_row x) = side_number 1 x (sides e)

-- a naming gives the rows of an effect their numbers
pub record NamesRows (N : Naming) (e : Signature) : Type 0 where
  pub hidden_row : N.row 0 ≡ hidden
  pub named_rows : (x : List ℕ) → is_among x (sides e) ≡ true → N.row (side_number 1 x (sides e)) ≡ named_row x

-- likewise those of the effect of the row word that is checked, where one is
abbrev pub NamesOwn : Naming → Option Signature → Type 0
NamesOwn N None = Unit {0}
NamesOwn N (Some e) = NamesRows N e
