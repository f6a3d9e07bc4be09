-- Effects whose rows are named by their numbers, so that rows with long names are compared at once.
use Rattle.std.specs.Prelude.{◌≡◌, ℕ, ◌/◌, ◌%◌, List, [], ◌∷◌, true, false, Option, Some, None}
use Rattle.fac_base.specs.Signatures.{Signature, signature, Inputs, no_inputs, value, quoted, Leaving, never, leaves}
use Rattle.fac_lang.specs.declared.program.WordDef.{WordDef}
use Rattle.fac_abs.specs.RowVariables.{is_row, bindable}
use Rattle.fac_rows.specs.RowNumbers.{sides, side_number}
use Rattle.fac_rows.specs.declared.row_effect.RowEffect.{RowEffect}

-- the name of the row with this number
abbrev pub number_name : ℕ → List ℕ
number_name n = n / 128 ∷ n % 128 ∷ []

-- the row variable of a side, named by its number in an effect
abbrev pub numbered_side : Signature → Option (List ℕ) → Option (List ℕ)
numbered_side e None = None
numbered_side e (Some x) = Some (number_name (side_number 1 x (sides e)))

abbrev pub numbered_leaving : Signature → Leaving → Leaving
numbered_leaving e never = never
numbered_leaving e (leaves r names) = leaves (numbered_side e r) names

-- an effect and inputs with all their rows named by the numbers that they have in the first effect
abbrev mutual
  pub numbered_within : Signature → Signature → Signature
  numbered_within e (signature r is l) = signature (numbered_side e r) (numbered_inputs e is) (numbered_leaving e l)

  pub numbered_inputs : Signature → Inputs → Inputs
  numbered_inputs e no_inputs = no_inputs
  numbered_inputs e (value x is) = value x (numbered_inputs e is)
  numbered_inputs e (quoted x q is) = quoted x (numbered_within e q) (numbered_inputs e is)

-- an effect with its rows named by their numbers
abbrev pub numbered : Signature → Signature
numbered e = numbered_within e e

-- what is made once of the effect of a word, where it is that of a row word
abbrev pub row_entry : WordDef → Option RowEffect
row_entry d = elim (is_row d.recursive d.effect) [ true ↦ Some (record { numbered = numbered d.effect; bindable = bindable d.effect }) | false ↦ None ]

-- this is what is made of the effect of a word
abbrev pub IsRowEntry : WordDef → Option RowEffect → Type 0
IsRowEntry d None = is_row d.recursive d.effect ≡ false
IsRowEntry d (Some r) = (is_row d.recursive d.effect ≡ true) × (r.numbered ≡ numbered d.effect) × (r.bindable ≡ bindable d.effect)

-- an entry, where there is one
abbrev pub entry_at : Option (Option RowEffect) → Option RowEffect
entry_at None = None
entry_at (Some o) = o
