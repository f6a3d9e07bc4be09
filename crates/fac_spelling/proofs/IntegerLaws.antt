-- The laws of integers.
use Rattle.std.proofs.Common.{◌≡◌, ℕ, ◌+◌, ◌*◌, ◌/◌, ◌%◌, true, false, refl, arith, inl, inr}
use Rattle.std.specs.Prelude.{nat_eq, ℤ, pos, negsuc}
use Rattle.std.proofs.lemmas.Bool.{cases_lt, eq-eqb, ne_eqb}
use Rattle.fac_spelling.specs.Formats.{Exact}
use Rattle.fac_spelling.specs.Numbers.{number, greatest128}
use Rattle.fac_spelling.specs.Integers.{zigzag, unzigzag, integer}
use Rattle.fac_spelling.proofs.FormatLaws.{seen_exact}
use Rattle.fac_spelling.proofs.NumberLaws.{number_exact}

pub unzigzag_back : (n : ℕ) → zigzag (unzigzag n) ≡ n
unzigzag_back n = elim (cases_lt (n % 2) 1) [
  | inl lt ↦ let e : nat_eq (n % 2) 0 ≡ true = eq-eqb (n % 2) 0 (omega arith) in rw e (omega arith)
  | inr ge ↦ let e : nat_eq (n % 2) 0 ≡ false = ne_eqb (n % 2) 0 (λ z. omega arith) in rw e (omega arith)
]

pub zigzag_back : (z : ℤ) → unzigzag (zigzag z) ≡ z
zigzag_back (pos n) =
    let e : nat_eq ((2 * n) % 2) 0 ≡ true = eq-eqb ((2 * n) % 2) 0 (omega arith) in
    let h : (2 * n) / 2 ≡ n = omega arith in
    rw (e, h) refl
zigzag_back (negsuc n) =
    let e : nat_eq ((2 * n + 1) % 2) 0 ≡ false = ne_eqb ((2 * n + 1) % 2) 0 (λ z. omega arith) in
    let h : (2 * n + 1) / 2 ≡ n = omega arith in
    rw (e, h) refl

pub integer_exact : Exact integer
integer_exact = seen_exact zigzag unzigzag (number 0 greatest128) (number_exact 0 greatest128 (omega arith) (omega arith)) (λ z _. zigzag_back z) (λ n _. unzigzag_back n)
