-- The printed form of a stored value.
use Rattle.std.specs.Prelude.{ℕ, zero, suc, List, [], ◌++◌, map, Option, Some, None, slice_get, codes}
use Rattle.std.specs.Fmt.{signed_decimal, decimal}
use Rattle.fac_lang.specs.World.{Object, array, tuple}
use Rattle.fac_lang.specs.Printed.{Names, escaped_all, spaced}
use Rattle.fac_store.specs.ValueTrees.{StoreSeen, trees_of, text_at, iota_count, wide_at}
use Rattle.fac_store.specs.StoredObjects.{object_values}
use Rattle.fac_store.specs.declared.value.Value.{Value}
use Rattle.fac_store.specs.declared.value.Value.TheVariants.{Int, True, False, Text, Iota, Word, Array, Tuple, Callable, Wide, WideIota}

-- what an object begins with: a tuple with its class's name
abbrev pub head_of : Names → Option (Object Value) → List ℕ
head_of N None = []
head_of N (Some (array vs)) = codes "{ "
head_of N (Some (tuple k vs)) = codes "T{ " ++ N.kind_name k ++ codes " "

-- what it ends with
abbrev pub tail_of : Option (Object Value) → List ℕ
tail_of None = []
tail_of (Some o) = codes "}"

-- an object by the forms of its values
abbrev pub object_by : Names → (Value → List ℕ) → Option (Object Value) → List ℕ
object_by N form o = head_of N o ++ spaced (map form (object_values o)) ++ tail_of o

-- a value, objects by their numbers
abbrev pub flat_form : StoreSeen → Names → (ℕ → List ℕ) → Value → List ℕ
flat_form s N object (Int z) = signed_decimal z
flat_form s N object True = codes "t"
flat_form s N object False = codes "f"
flat_form s N object (Text k) = codes "\"" ++ escaped_all (text_at (trees_of s) k) ++ codes "\""
flat_form s N object (Iota z) = codes "<iota " ++ decimal (iota_count z) ++ codes ">"
flat_form s N object (Word a) = N.word_name a
flat_form s N object (Array k) = object k
flat_form s N object (Tuple k) = object k
flat_form s N object (Callable k) = codes "[ ... ]"
flat_form s N object (Wide k low) = signed_decimal (wide_at (trees_of s) k low)
flat_form s N object (WideIota k low) = codes "<iota " ++ decimal (iota_count (wide_at (trees_of s) k low)) ++ codes ">"

-- the object of a number with so many levels; below them it is three dots
abbrev pub object_form : StoreSeen → Names → ℕ → ℕ → List ℕ
object_form s N zero a = codes "..."
object_form s N (suc l) a = object_by N (flat_form s N (object_form s N l)) (slice_get s.objects a)

-- a value with so many levels
abbrev pub stored_form : StoreSeen → Names → ℕ → Value → List ℕ
stored_form s N l v = flat_form s N (object_form s N l) v

-- the object of a number whose values have so many levels
abbrev pub object_of : StoreSeen → Names → ℕ → ℕ → List ℕ
object_of s N l a = object_by N (stored_form s N l) (slice_get s.objects a)
