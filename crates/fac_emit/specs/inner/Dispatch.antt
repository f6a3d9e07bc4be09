-- The methods of generics: their rows.
use Rattle.std.specs.Prelude.{ℕ, List, [], ◌∷◌, map, Option, Some}
use Rattle.fac_lang.specs.declared.program.Program.{Program}
use Rattle.fac_lang.specs.declared.program.Sort.{Sort}
use Rattle.fac_lang.specs.declared.program.Sort.TheVariants.{Generic as generic, Method as method}
use Rattle.fac_lang.specs.Meaning.{sort_of}
use Rattle.fac_code.specs.declared.image.GenericRow.{GenericRow}
use Rattle.fac_generic.specs.Methods.{methods_in_order}
use Rattle.fac_emit.specs.ProgramTables.{method_row}

-- the class of a method
abbrev pub class_by : Option Sort → ℕ
class_by (Some (method c g t)) = c
class_by _ = 0

abbrev pub class_in : Program → ℕ → ℕ
class_in P m = class_by (sort_of P m)

-- the row of a word of this sort, where it is generic
abbrev pub generic_rows : Program → (ℕ → ℕ) → ℕ → Sort → List GenericRow
generic_rows P place g generic = record { word = g; methods = map (method_row place) (methods_in_order P g) } ∷ []
generic_rows P place g _ = []
