-- Names, and the words that they find.
use Rattle.std.specs.Prelude.{ℕ, List, map, Bool, Option, Some, None}
use Rattle.std.specs.List.{list_any}
use Rattle.std.specs.Str.{bytes_eq}
use Rattle.fac_source.specs.declared.tok.Tok.{Tok}

abbrev pub is_among : List ℕ → List (List ℕ) → Bool
is_among name names = list_any (bytes_eq name) names

abbrev pub texts_of : List Tok → List (List ℕ)
texts_of ts = map (λ (t : Tok). t.text) ts

-- the number of a word, or 0 where there is none and the program is refused
abbrev pub number : Option ℕ → ℕ
number (Some w) = w
number None = 0
