-- Quotients and remainders.
use Rattle.std.specs.Prelude.{ℤ, int_div, int_rem, Option, Some, None, true, false}
use Rattle.fac_base.specs.Numbers.{in_range, is_zero}

-- the quotient, rounded toward zero; None where b is 0 or it is out of range
abbrev pub quotient : ℤ → ℤ → Option ℤ
quotient a b = elim (is_zero b) [ true ↦ None | false ↦ in_range (int_div a b) ]

-- the remainder of that quotient, with the sign of a; None where b is 0
abbrev pub remainder : ℤ → ℤ → Option ℤ
remainder a b = elim (is_zero b) [ true ↦ None | false ↦ Some (int_rem a b) ]
