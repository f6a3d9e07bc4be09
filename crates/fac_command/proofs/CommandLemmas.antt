-- Numbers of so many digits.
use Rattle.std.proofs.Common.{◌≡◌, ◌≤◌, ◌<◌, ◌+◌, ◌*◌, ◌^◌, ℕ, suc, arith}
use Rattle.std.proofs.Math.Nat.{pow-suc, pow-le-pow_right}

-- one more digit
pub digit_more : (n k d : ℕ) → n < 10 ^ k → d < 10 → n * 10 + d < 10 ^ (k + 1)
digit_more n k d small digit =
    let step : k + 1 ≡ suc k = omega arith in
    let e : 10 ^ (k + 1) ≡ 10 ^ k * 10 = rw step (pow-suc 10 k) in
    omega (arith, e, small, digit)

-- a number of less than thirteen digits, and with one more digit
pub digits_fit : (n k most d : ℕ) → n < 10 ^ k → k < most → most ≤ 13 → d < 10 → n * 10 + d < 2 ^ 64
digits_fit n k most d small before few digit =
    let least : k ≤ 12 = omega (arith, before, few) in
    let some : 0 < 10 = omega arith in
    let bound : 10 ^ k ≤ 10 ^ 12 = pow-le-pow_right some least in
    omega (arith, bound, small, digit)
