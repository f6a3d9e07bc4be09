-- The numbers of methods, kept to be found at once.
use Rattle.std.specs.Prelude.{◌≡◌, ℕ, List, nat_eq, Option, Some, None}
use Rattle.std.specs.List.{list_any}
use Rattle.indexmap.specs.IndexSet.{IndexSet}
use Rattle.fac_code.specs.declared.image.GenericRow.{GenericRow}
use Rattle.fac_code.specs.declared.method_numbers.MethodNumbers.{MethodNumbers}
use Rattle.fac_code.specs.References.{names_method}

-- where numbers are kept, they are just those of the generics' methods
abbrev pub AreKept : {S : Type 0} → List GenericRow → Option (IndexSet ℕ S) → Type 0
AreKept gs None = Unit
AreKept gs (Some s) = (m : ℕ) → list_any (nat_eq m) s.keys ≡ names_method gs m

abbrev pub AreNumbersOf : List GenericRow → MethodNumbers → Type 0
AreNumbersOf gs n = AreKept gs n.kept
