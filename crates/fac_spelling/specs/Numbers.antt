-- Numbers in a range, in their shortest form.
use Rattle.std.specs.Prelude.{ℕ, zero, suc, ◌+◌, ◌-◌, ◌*◌, ◌/◌, ◌%◌, ◌^◌, ◌≤◌, List, [], ◌∷◌, length, Result, Ok, Err, Bool, nat_lt, nat_le, ◌&&◌, if◌then◌else◌, max}
use Rattle.fac_spelling.specs.Formats.{◌>>=◌, Format}

-- Digits of base 128, low first, each but the last with 128 added. `more` is how many digits may follow the first.
abbrev pub digits : ℕ → ℕ → List ℕ
digits zero n = n ∷ []
digits (suc more) n = if nat_lt n 128 then n ∷ [] else (128 + n % 128) ∷ digits more (n / 128)

-- The shortest form, LEB128. 19 digits reach past 2 ^ 128. (An `abbrev` would put 18 copies of a test into each goal.)
unfoldable pub shortest : ℕ → List ℕ
shortest n = digits 18 n

-- Behind a byte from 128 on, the rest is a number from `least` to `most`, so that the whole is one from low to high. That it is at least 1
-- is the rule of the shortest form.
abbrev pub least : ℕ → ℕ → ℕ
least low b = max 1 ((low + 255 - b) / 128)

abbrev pub most : ℕ → ℕ → ℕ
most high b = (high + 128 - b) / 128

abbrev pub leads_on : ℕ → ℕ → ℕ → Bool
leads_on low high b = nat_lt b 256 && nat_le (least low b) (most high b)

abbrev pub in_range : ℕ → ℕ → ℕ → Bool
in_range low high b = nat_le low b && nat_le b high

abbrev pub number_at : ℕ → ℕ → List ℕ → Result (ℕ × List ℕ) ℕ
number_at low high [] = Err 0
number_at low high (b ∷ bs) =
    if nat_lt b 128
    then (if in_range low high b then Ok (b, bs) else Err (suc (length bs)))
    else (if leads_on low high b then number_at (least low b) (most high b) bs >>= (λ x. Ok (b - 128 + 128 * x.0, x.1)) else Err (suc (length bs)))

pub record IsWithin (low high n : ℕ) : Type 0 where
  pub above : low ≤ n
  pub below : n ≤ high

-- a number from low to high
abbrev pub number : ℕ → ℕ → Format ℕ
number low high = record { Fits = IsWithin low high; spell = shortest; read = number_at low high }

abbrev pub greatest32 : ℕ
greatest32 = 2 ^ 32 - 1

abbrev pub greatest128 : ℕ
greatest128 = 2 ^ 128 - 1

-- a number of 32 bits
abbrev pub number32 : Format ℕ
number32 = number 0 greatest32
