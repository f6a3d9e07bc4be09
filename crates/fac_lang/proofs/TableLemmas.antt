-- The primitives of the definitions are those of the code's table.
use Rattle.std.proofs.Common.{◌≡◌, ◌<◌, ◌≤◌, ℕ, List, length, Option, Some, None, refl, sym, ap, ◌∙◌, arith}
use Rattle.std.specs.Prelude.{map, slice_get, get_or, nat_lt}
use Rattle.std.specs.Option.{option_map}
use Rattle.std.proofs.lemmas.Option.{slice_get-map, slice_get-get_or}
use Rattle.std.proofs.lemmas.List.{length-map}
use Rattle.fac_lang.specs.Primitives.{Primitive, prim_numbered, built_primitives, built_count, is_built_primitive, RowSeen, row_seen, rows_seen, primitive_does, primitive_seen, doing_numbered, IsOperationOf, TableRow}

doing_of_row : (number : ℕ) → doing_numbered number ≡ option_map (λ (r : RowSeen). r.doing) (slice_get rows_seen number)
unfolding rows_seen prim_numbered
doing_of_row number =
    sym (ap (option_map (λ (r : RowSeen). r.doing)) (slice_get-map primitive_seen built_primitives number) ∙ option_twice (slice_get built_primitives number))
  where
    option_twice : (o : Option Primitive) → option_map (λ (r : RowSeen). r.doing) (option_map primitive_seen o) ≡ option_map primitive_does o
    option_twice None = refl
    option_twice (Some p) = refl

-- what a row says is what the primitive of its number does
pub row_is : (rows : List TableRow) (number : ℕ) (row : TableRow) → map row_seen rows ≡ rows_seen → number < length rows → row ≡ get_or rows number row → IsOperationOf number row.does
row_is rows number row same less is =
    doing_of_row number ∙ ap (λ (seen : List RowSeen). option_map (λ (r : RowSeen). r.doing) (slice_get seen number)) (sym same) ∙ ap (option_map (λ (r : RowSeen). r.doing)) (slice_get-map row_seen rows number ∙ ap (option_map row_seen) (slice_get-get_or rows number row less ∙ ap Some (sym is)))

-- the table has as many rows
pub row_count : (rows : List TableRow) → map row_seen rows ≡ rows_seen → length rows ≡ built_count
unfolding rows_seen built_count
row_count rows same = sym (length-map rows row_seen) ∙ ap length same

-- so each number of a primitive has one
pub row_there : (rows : List TableRow) (number : ℕ) → map row_seen rows ≡ rows_seen → number < built_count → length rows ≤ number → ⊥
row_there rows number same less past = let long : length rows ≡ built_count = row_count rows same in omega arith

pub is_counted : (rows : List TableRow) (number : ℕ) → map row_seen rows ≡ rows_seen → nat_lt number (length rows) ≡ is_built_primitive number
is_counted rows number same = ap (nat_lt number) (row_count rows same)
