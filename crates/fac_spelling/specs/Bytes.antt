-- Single bytes.
use Rattle.std.specs.Prelude.{◌≡◌, ℕ, suc, List, [], ◌∷◌, length, drop, map, Result, Ok, Err, Bool, true, if◌then◌else◌}
use Rattle.fac_spelling.specs.Formats.{Format, run}
use Rattle.fac_spelling.specs.Numbers.{in_range}

abbrev pub byte_at : (ℕ → Bool) → List ℕ → Result (ℕ × List ℕ) ℕ
byte_at test [] = Err 0
byte_at test (b ∷ bs) = if test b then Ok (b, bs) else Err (suc (length bs))

-- one byte that passes a test
abbrev pub byte : (ℕ → Bool) → Format ℕ
byte test = record { Fits = λ b. test b ≡ true; spell = λ b. b ∷ []; read = byte_at test }

-- the least and the greatest value of a byte
pub record Range : Type 0 where
  pub low : ℕ
  pub high : ℕ

-- a byte that continues a character
abbrev pub continues : Range
continues = record { low = 0x80; high = 0xBF }

abbrev pub range_first : List Range → Range
range_first [] = continues
range_first (r ∷ rs) = r

-- a byte of each range
abbrev pub in_ranges : List Range → Format (List ℕ)
in_ranges rs = run {S = List Range} (λ _ s. byte (in_range (range_first s).low (range_first s).high)) (λ s _. drop 1 s) (length rs) rs

abbrev pub only : ℕ → Range
only b = record { low = b; high = b }

-- these bytes and no others
abbrev pub fixed : List ℕ → Format (List ℕ)
fixed bs = in_ranges (map only bs)
