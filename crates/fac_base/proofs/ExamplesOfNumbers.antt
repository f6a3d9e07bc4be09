-- Examples of texts of numbers, and of shifts.
use Rattle.std.proofs.Common.{◌≡◌, refl, Some, None}
use Rattle.std.specs.Prelude.{pos, negsuc, codes, ◌^◌, ◌-◌}
use Rattle.fac_base.specs.Numbers.{integer_in, shifted}

-- a comma stands between two digits
pub read_comma_first : integer_in (codes ",100") ≡ None
read_comma_first = refl

pub read_comma_last : integer_in (codes "100,") ≡ None
read_comma_last = refl

pub read_binary : integer_in (codes "0b101") ≡ Some (pos 5)
read_binary = refl

pub read_octal : integer_in (codes "-0o17") ≡ Some (negsuc 14)
read_octal = refl

pub read_wrong_digit : integer_in (codes "0b102") ≡ None
read_wrong_digit = refl

pub read_no_digits : integer_in (codes "0x") ≡ None
read_no_digits = refl

pub read_minus_alone : integer_in (codes "-") ≡ None
read_minus_alone = refl

pub read_minus_zero : integer_in (codes "-0") ≡ Some (pos 0)
read_minus_zero = refl

pub read_comma : integer_in (codes "1,000") ≡ Some (pos 1000)
read_comma = refl

pub read_two_commas : integer_in (codes "1,,0") ≡ None
read_two_commas = refl

pub read_hex : integer_in (codes "-0xfF") ≡ Some (negsuc 254)
read_hex = refl

pub read_least : integer_in (codes "-170141183460469231731687303715884105728") ≡ Some (negsuc (2 ^ 127 - 1))
read_least = refl

pub read_wide : integer_in (codes "170141183460469231731687303715884105728") ≡ None
read_wide = refl

pub shift_down : shifted (negsuc 4) (negsuc 0) ≡ Some (negsuc 2)
shift_down = refl

pub shift_far : shifted (pos 1) (pos 127) ≡ None
shift_far = refl
