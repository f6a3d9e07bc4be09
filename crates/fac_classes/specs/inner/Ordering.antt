-- The order of classes as the code finds it.
use Rattle.std.specs.Prelude.{◌≡◌, ℕ, zero, suc, ◌<◌, List, length, get_or, Bool, true, false, Some, slice_get, string_bytes}
use Rattle.std.specs.List.{range_with_len}
use Rattle.std.specs.List.Sorted.{IsPermutation}
use Rattle.std.specs.declared.string.String.{String}
use Rattle.fac_lang.specs.declared.program.ClassDef.{ClassDef}
use Rattle.fac_lang.specs.Classes.{kind_count, full_name, class_before}
use Rattle.fac_classes.specs.ClassKinds.{kind_total}
use Rattle.fac_classes.specs.inner.Cells.{cell}

-- how many of the first n kinds are marked for a class
abbrev pub cell_count : ℕ → List Bool → ℕ → ℕ → ℕ
cell_count w cells c zero = 0
cell_count w cells c (suc n) = elim (cell w cells c n) [ true ↦ suc (cell_count w cells c n) | false ↦ cell_count w cells c n ]

-- By what classes are ordered: how many kinds one has, its full name and its number.
abbrev pub key_of : List ClassDef → ℕ → ℕ × List ℕ × ℕ
key_of cs c = (kind_count cs c (kind_total cs), full_name cs c, c)

-- all classes, in their order
pub record IsAscending (cs : List ClassDef) (numbers : List ℕ) : Type 0 where
  pub moved : IsPermutation (range_with_len 0 (length cs)) numbers
  pub ascending : (i j : ℕ) → i < j → j < length numbers → class_before cs (get_or numbers i 0) (get_or numbers j 0) ≡ true

-- the number at each place has the place
abbrev pub HasPlaces : ℕ → List ℕ → List ℕ → Type 0
HasPlaces n numbers places = (i c : ℕ) → i < n → slice_get numbers i ≡ Some c → get_or places c 0 ≡ i

-- no number stands at two places
abbrev pub IsOnce : List ℕ → Type 0
IsOnce numbers = (i j c : ℕ) → slice_get numbers i ≡ Some c → slice_get numbers j ≡ Some c → i ≡ j

-- a key of the code
abbrev pub key_seen : {Z : Type 0} → ℕ × String Z × ℕ → ℕ × List ℕ × ℕ
key_seen k = (k.0, string_bytes k.1, k.2)
