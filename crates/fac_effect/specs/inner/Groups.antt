-- Tokens in groups by how many bytes they have.
use Rattle.std.specs.Prelude.{ℕ, suc, Bool, true, List, [], ◌∷◌, length, nat_eq, ◌&&◌}
use Rattle.fac_effect.specs.declared.spelling.Spelling.{Spelling}

-- each of these tokens has so many bytes
abbrev pub are_of_length : ℕ → List (List ℕ × Spelling) → Bool
are_of_length n [] = true
are_of_length n (s ∷ ss) = nat_eq (length s.0) n && are_of_length n ss

-- those of the first group have so many, and those of each further group one more
abbrev pub are_by_length : ℕ → List (List (List ℕ × Spelling)) → Bool
are_by_length n [] = true
are_by_length n (g ∷ gs) = are_of_length n g && are_by_length (suc n) gs
