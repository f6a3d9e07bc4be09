-- Numbers and pairs that ascend.
use Rattle.std.specs.Prelude.{ℕ, suc, List, [], ◌∷◌, Bool, true, ◌&&◌, nat_le}
use Rattle.fac_spelling.specs.Formats.{Format, follow}
use Rattle.fac_spelling.specs.Numbers.{number32}

-- whether each number is above those before it, and the first one no less than this
abbrev pub ascends : ℕ → List ℕ → Bool
ascends least [] = true
ascends least (n ∷ ns) = nat_le least n && ascends (suc n) ns

-- so of the keys of pairs
abbrev pub keys_ascend : ℕ → List (ℕ × ℕ) → Bool
keys_ascend least [] = true
keys_ascend least (p ∷ ps) = nat_le least p.0 && keys_ascend (suc p.0) ps

-- a pair whose order doesn't count
abbrev pub pair_format : Format (ℕ × ℕ)
pair_format = follow number32 (λ _. number32)
