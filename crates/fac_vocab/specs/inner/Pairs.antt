-- Numbers that are kept under pairs of texts.
use Rattle.std.specs.Prelude.{ℕ, List, Option, None, String}
use Rattle.std.specs.Option.{option_map_or}
use Rattle.indexmap.specs.IndexMap.{IndexMap, get_by_text}

-- the number that is kept under two texts
abbrev pub number_in : {Y S T : Type 0} → IndexMap (String Y) (IndexMap (String Y) ℕ S) T → List ℕ → List ℕ → Option ℕ
number_in pairs p q = option_map_or (λ m. get_by_text m q) (get_by_text pairs p) None
