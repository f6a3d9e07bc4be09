-- Which images have a spelling as bytes.
use Rattle.std.specs.Prelude.{◌≡◌, ℕ, ◌-◌, ◌^◌, List, [], ◌∷◌, ◌++◌, length, map, Bool, true, Option, Some, None, nat_eq, nat_lt}
use Rattle.std.specs.List.{list_all, IsDistinct}
use Rattle.fac_code.specs.declared.image.Instr.{Instr}
use Rattle.fac_code.specs.declared.instr_row.Operand.{Operand}
use Rattle.fac_code.specs.declared.instr_row.Operand.TheVariants as o
use Rattle.fac_code.specs.declared.image.GenericRow.{GenericRow}
use Rattle.fac_code.specs.declared.image.Image.{Image}
use Rattle.fac_code.specs.InstrRows.{row_of}

-- the numbers of the methods of generics
abbrev pub method_numbers : List GenericRow → List ℕ
method_numbers [] = []
method_numbers (g ∷ gs) = map (λ m. m.number) g.methods ++ method_numbers gs

-- whether a text has fewer than 2 ^ 32 bytes
abbrev pub is_short : List ℕ → Bool
is_short bytes = nat_lt (length bytes) (2 ^ 32)

-- whether one more than so many values is a number of 32 bits
abbrev pub are_few : Option ℕ → Bool
are_few None = true
are_few (Some n) = nat_lt n (2 ^ 32 - 1)

abbrev pub operand_leaves_few : Operand → Bool
operand_leaves_few (o.Height h) = are_few h.outs
operand_leaves_few _ = true

-- whether what an instruction tests leaves so few values, where it tests something
abbrev pub leaves_few : Instr → Bool
leaves_few i = operand_leaves_few (row_of i).operand

-- An image has a spelling where this holds beside what every image keeps. No list and no number is too large for one, since they have 32 bits.
pub record IsSpellable (M : Image) : Type 0 where
  -- no two methods have one number
  pub numbers_differ : IsDistinct nat_eq (method_numbers M.generics)
  pub texts_short : list_all is_short M.texts ≡ true
  pub few_left : list_all leaves_few M.code ≡ true
