-- Numbers that pass a test, such as those that are not taken yet.
use Rattle.std.specs.Prelude.{◌≡◌, ℕ, zero, suc, ◌+◌, ◌-◌, ◌*◌, ◌≤◌, List, [], ◌∷◌, length, Result, Ok, Err, Bool, true, false, not, nat_lt, nat_eq, ◌&&◌, if◌then◌else◌}
use Rattle.fac_spelling.specs.Formats.{◌>>=◌, Format}
use Rattle.fac_spelling.specs.Numbers.{shortest, least, most, in_range, greatest32}

-- whether one of so many numbers from `low` on passes
unfoldable pub some_in : (ℕ → Bool) → ℕ → ℕ → Bool
some_in test low zero = false
some_in test low (suc count) = elim (test low) [ true ↦ true | false ↦ some_in test (low + 1) count ]

-- whether a number from low to high passes
abbrev pub any_passes : (ℕ → Bool) → ℕ → ℕ → Bool
any_passes test low high = some_in test low (high + 1 - low)

-- the test of what follows a first byte from 128 on
abbrev pub test_behind : ℕ → (ℕ → Bool) → ℕ → Bool
test_behind b test h = test (b - 128 + 128 * h)

abbrev pub leads_on_where : (ℕ → Bool) → ℕ → ℕ → ℕ → Bool
leads_on_where test low high b = nat_lt b 256 && any_passes (test_behind b test) (least low b) (most high b)

abbrev pub number_where_at : (ℕ → Bool) → ℕ → ℕ → List ℕ → Result (ℕ × List ℕ) ℕ
number_where_at test low high [] = Err 0
number_where_at test low high (b ∷ bs) =
    if nat_lt b 128
    then (if in_range low high b && test b then Ok (b, bs) else Err (suc (length bs)))
    else (if leads_on_where test low high b then number_where_at (test_behind b test) (least low b) (most high b) bs >>= (λ x. Ok (b - 128 + 128 * x.0, x.1)) else Err (suc (length bs)))

pub record Passes (test : ℕ → Bool) (low high n : ℕ) : Type 0 where
  pub above : low ≤ n
  pub below : n ≤ high
  pub passes : test n ≡ true

-- a number from low to high that passes
abbrev pub number_where : (ℕ → Bool) → ℕ → ℕ → Format ℕ
number_where test low high = record { Fits = Passes test low high; spell = shortest; read = number_where_at test low high }

-- ---- numbers that differ from those before them

abbrev pub is_free : List ℕ → ℕ → Bool
is_free [] n = true
is_free (t ∷ ts) n = not (nat_eq t n) && is_free ts n

-- a number of 32 bits that isn't taken
abbrev pub fresh : List ℕ → Format ℕ
fresh taken = number_where (is_free taken) 0 greatest32
