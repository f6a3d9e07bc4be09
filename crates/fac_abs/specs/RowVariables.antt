-- Row variables of effects: which effects have them, and whether they can be bound at a use. A row word is an inline word that has a row variable or is marked `recursive`.
use Rattle.std.specs.Prelude.{ℕ, zero, suc, List, [], ◌∷◌, Bool, true, false, ◌&&◌, ◌||◌, not, Option, Some, None}
use Rattle.std.specs.Str.{bytes_eq}
use Rattle.fac_base.specs.Signatures.{Signature, signature, Inputs, no_inputs, value, quoted, Leaving, never, leaves}

-- A row: the one hidden row of an effect that names none, or a row variable.
pub data Row : Type 0 where
  hidden : Row
  named_row : List ℕ → Row

-- equality of rows, by the names of row variables
abbrev pub row_eq : Row → Row → Bool
row_eq hidden hidden = true
row_eq hidden (named_row y) = false
row_eq (named_row x) hidden = false
row_eq (named_row x) (named_row y) = bytes_eq x y

-- the row of one side of an effect
abbrev pub row_of : Option (List ℕ) → Option Row
row_of None = None
row_of (Some x) = Some (named_row x)

-- the row of the output side
abbrev pub leaving_row : Leaving → Option Row
leaving_row never = None
leaving_row (leaves r names) = row_of r

-- whether there is a row
abbrev pub some_row : Option Row → Bool
some_row None = false
some_row (Some r) = true

-- whether the output is `*`
abbrev pub is_never : Leaving → Bool
is_never never = true
is_never (leaves r names) = false

-- the input side of an effect
abbrev pub effect_inputs : Signature → Inputs
effect_inputs (signature r is l) = is

-- the output side
abbrev pub effect_leaving : Signature → Leaving
effect_leaving (signature r is l) = l

-- whether an effect has a row variable, at any depth
abbrev mutual
  pub has_rows : Signature → Bool
  has_rows (signature r is l) = some_row (row_of r) || (some_row (leaving_row l) || inputs_rows is)

  pub inputs_rows : Inputs → Bool
  inputs_rows no_inputs = false
  inputs_rows (value x is) = inputs_rows is
  inputs_rows (quoted x e is) = has_rows e || inputs_rows is

-- the outer rows of a row word: of an effect without row variables both are the hidden row
abbrev pub outer_in : Signature → Option Row
outer_in (signature r is l) = elim (has_rows (signature r is l)) [ true ↦ row_of r | false ↦ Some hidden ]

abbrev pub outer_out : Signature → Option Row
outer_out (signature r is l) = elim (has_rows (signature r is l)) [ true ↦ leaving_row l | false ↦ Some hidden ]

-- whether a side's row, where it has one, is among these
abbrev pub in_rows : Option Row → List Row → Bool
in_rows None rs = true
in_rows (Some r) [] = false
in_rows (Some r) (s ∷ rs) = row_eq r s || in_rows (Some r) rs

-- these rows and a side's row, where it has one
abbrev pub more_rows : Option Row → List Row → List Row
more_rows None rs = rs
more_rows (Some r) rs = r ∷ rs

-- whether only one of two sides has a row
abbrev pub one_sided : Option Row → Option Row → Bool
one_sided None None = false
one_sided None (Some s) = true
one_sided (Some r) None = true
one_sided (Some r) (Some s) = false

-- whether an effect in an input has a row on one side alone, at any depth
abbrev mutual
  pub nested_one_sided : Inputs → Bool
  nested_one_sided no_inputs = false
  nested_one_sided (value x is) = nested_one_sided is
  nested_one_sided (quoted x e is) = lone e || nested_one_sided is

  pub lone : Signature → Bool
  lone (signature r is l) = one_sided (row_of r) (leaving_row l) || nested_one_sided is

-- the rows that are bound where the quotation inputs are taken from left to right, or None where one starts from a row that isn't bound
abbrev pub bound_rows : Inputs → List Row → Option (List Row)
bound_rows no_inputs rs = Some rs
bound_rows (value x is) rs = bound_rows is rs
bound_rows (quoted x (signature None ns l) is) rs = bound_rows is rs
bound_rows (quoted x (signature (Some r) ns l) is) rs = elim (in_rows (Some (named_row r)) rs) [ true ↦ bound_rows is (more_rows (leaving_row l) rs) | false ↦ None ]

-- whether all rows of an effect are among these
abbrev mutual
  pub all_bound : Signature → List Row → Bool
  all_bound (signature r is l) rs = in_rows (row_of r) rs && (in_rows (leaving_row l) rs && inputs_bound is rs)

  pub inputs_bound : Inputs → List Row → Bool
  inputs_bound no_inputs rs = true
  inputs_bound (value x is) rs = inputs_bound is rs
  inputs_bound (quoted x e is) rs = all_bound e rs && inputs_bound is rs

-- likewise among rows that could be bound
abbrev pub bound_all : Signature → Option (List Row) → Bool
bound_all e None = false
bound_all e (Some rs) = all_bound e rs

-- Whether the rows of an inline word's effect can be bound: no side alone has a row, but for the outer sides of a word that never returns; where an input names a row, both outer sides have one; and each row is bound from left to right.
abbrev pub bindable : Signature → Bool
bindable (signature r is l) =
    not (has_rows (signature r is l)) || (not (one_sided (row_of r) (leaving_row l) && not (is_never l)) && (not (nested_one_sided is) && (not (inputs_rows is && (not (some_row (row_of r)) || (not (is_never l) && not (some_row (leaving_row l))))) && bound_all (signature r is l) (bound_rows is (more_rows (row_of r) [])))))

-- the effect of input k, counted from 1
abbrev pub input_effect : ℕ → Inputs → Option Signature
input_effect k no_inputs = None
input_effect zero (value x is) = None
input_effect zero (quoted x e is) = None
input_effect (suc zero) (value x is) = None
input_effect (suc zero) (quoted x e is) = Some e
input_effect (suc (suc k)) (value x is) = input_effect (suc k) is
input_effect (suc (suc k)) (quoted x e is) = input_effect (suc k) is

-- the name of the input row
abbrev pub row_name : Signature → Option (List ℕ)
row_name (signature r is l) = r

-- whether an inline word is a row word
abbrev pub is_row : Bool → Signature → Bool
is_row recursive e = recursive || has_rows e
