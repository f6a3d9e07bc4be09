-- Class sets: the kinds of a class.
use Rattle.std.specs.Prelude.{ℕ, List, Bool, false, nat_eq, Option, Some, None}
use Rattle.std.specs.List.{list_any}

-- whether a kind is in a class set; none is in one that isn't there
abbrev pub set_has : Option (List ℕ) → ℕ → Bool
set_has None k = false
set_has (Some ks) k = list_any (nat_eq k) ks
