-- Which rows the inputs of an effect bind.
use Rattle.std.specs.Prelude.{ℕ, List, Bool, true, false, ◌&&◌, ◌||◌, Option, Some, None}
use Rattle.fac_base.specs.declared.effect.Input.{Input}
use Rattle.fac_base.specs.Signatures.{Signature, Inputs, no_inputs, value, quoted}
use Rattle.fac_abs.specs.RowVariables.{Row, named_row, row_eq, row_of, row_name, effect_leaving, leaving_row, some_row, in_rows, more_rows}

-- whether the row of a side is this one
abbrev pub is_row_there : List ℕ → Option Row → Bool
is_row_there x None = false
is_row_there x (Some s) = row_eq (named_row x) s

-- whether a quotation input of this effect, which starts from a row, leaves this one
abbrev pub effect_binds : List ℕ → Signature → Bool
effect_binds x e = some_row (row_of (row_name e)) && is_row_there x (leaving_row (effect_leaving e))

-- whether some input leaves this row
abbrev pub inputs_bind : List ℕ → Inputs → Bool
inputs_bind x no_inputs = false
inputs_bind x (value y is) = inputs_bind x is
inputs_bind x (quoted y e is) = effect_binds x e || inputs_bind x is

-- whether the rows of all inputs could be bound
abbrev pub could_bind : Option (List Row) → Bool
could_bind None = false
could_bind (Some rs) = true

-- the rows that inputs leave, the latest first, and then these
abbrev pub rows_after : Inputs → List Row → List Row
rows_after no_inputs rs = rs
rows_after (value x is) rs = rows_after is rs
rows_after (quoted x e is) rs = rows_after is (elim (row_name e) [ None ↦ rs | Some r ↦ more_rows (leaving_row (effect_leaving e)) rs ])

-- whether an input starts from one of these rows, where it starts from a row
abbrev pub starts_from : List Row → Input → Bool
starts_from rs i = elim i.quot [ None ↦ true | Some e ↦ in_rows (row_of (row_name e.value)) rs ]

-- whether the rows of both sides of an effect are among these
abbrev pub are_sides_among : Signature → List Row → Bool
are_sides_among e rs = in_rows (row_of (row_name e)) rs && in_rows (leaving_row (effect_leaving e)) rs
