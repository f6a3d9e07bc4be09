-- An integer of 128 bits gives the two halves of its bits back.
use Rattle.std.specs.Prelude.{ℕ, ◌≡◌, ◌<◌, ◌+◌, ◌*◌, ◌/◌, ◌%◌, ◌^◌}
use Rattle.std.specs.Int.{cast_signed, cast_unsigned}
use Rattle.std.proofs.Common.{arith, ◌∙◌, ap}
use Rattle.std.proofs.lemmas.Int.{of_z-to_z}
use Rattle.std.proofs.lemmas.Nat.{mod-mul-add, div-mul-add}
use lib.IntN.{ℤ}
use mir.Syntax.{w128}
use Rattle.fac_base.specs.declared.integer.Integer.TheInside.{Inside}

-- the halves of an integer
abbrev pub halves : ℤ → Inside
halves z = record { high = cast_unsigned w128 z / 2 ^ 64; low = cast_unsigned w128 z % 2 ^ 64 }

-- the integer of two halves
abbrev pub of_halves : Inside → ℤ
of_halves a = cast_signed w128 (a.high * 2 ^ 64 + a.low)

-- each half has 64 bits
abbrev pub AreHalves : Inside → Type 0
AreHalves a = (a.high < 2 ^ 64) × (a.low < 2 ^ 64)

bits_back : (h l : ℕ) → h < 2 ^ 64 → l < 2 ^ 64 → cast_unsigned w128 (cast_signed w128 (h * 2 ^ 64 + l)) ≡ h * 2 ^ 64 + l
bits_back h l p q = of_z-to_z w128 (h * 2 ^ 64 + l) (omega (arith, p, q))

high_back : (h l : ℕ) → h < 2 ^ 64 → l < 2 ^ 64 → cast_unsigned w128 (cast_signed w128 (h * 2 ^ 64 + l)) / 2 ^ 64 ≡ h
high_back h l p q = ap (λ n. n / 2 ^ 64) (bits_back h l p q) ∙ div-mul-add h (2 ^ 64) l q

low_back : (h l : ℕ) → h < 2 ^ 64 → l < 2 ^ 64 → cast_unsigned w128 (cast_signed w128 (h * 2 ^ 64 + l)) % 2 ^ 64 ≡ l
low_back h l p q = ap (λ n. n % 2 ^ 64) (bits_back h l p q) ∙ mod-mul-add h (2 ^ 64) l q

pub halves_back : (a : Inside) → AreHalves a → halves (of_halves a) ≡ a
halves_back a h = ap (λ (n : ℕ). record { high = n; low = cast_unsigned w128 (of_halves a) % 2 ^ 64 }) (high_back a.high a.low h.0 h.1) ∙ ap (λ (n : ℕ). record { high = a.high; low = n }) (low_back a.high a.low h.0 h.1)
