-- The steps of reading.
use Rattle.std.specs.Prelude.{ℕ, ℤ, pos, ◌+◌, ◌-◌, ◌*◌, ◌^◌, min, nat_eq, Bool, true, false, ◌&&◌, List, [], ◌∷◌, Option, Some, None, Result, Ok, Err, if◌then◌else◌}
use Rattle.fac_base.specs.Numbers.{digit_of, digit_below, in_range, negated}
use Rattle.fac_num.specs.declared.read.NumFault.{NumFault}
use Rattle.fac_num.specs.declared.read.NumFault.TheVariants.{NotNumber, TooWide}

-- the number, or the largest one of 128 bits in place of a larger one
abbrev pub capped : ℕ → ℕ
capped n = min n (2 ^ 128 - 1)

abbrev pub capped_some : Option ℕ → Option ℕ
capped_some None = None
capped_some (Some n) = Some (capped n)

-- decimal digits with single commas between two of them, behind the value n, where a digit stands before or not
abbrev pub grouped_from : Bool → ℕ → List ℕ → Option ℕ
grouped_from after_digit n [] = elim after_digit [ true ↦ Some n | false ↦ None ]
grouped_from after_digit n (c ∷ cs) =
    elim (digit_below 10 (digit_of c)) [
      | Some d ↦ grouped_from true (10 * n + d) cs
      | None ↦ elim (nat_eq c 44 && after_digit) [ true ↦ grouped_from false n cs | false ↦ None ]
    ]

-- the base that two characters write
abbrev pub base_mark : ℕ → ℕ → Option ℕ
base_mark c b =
    (if nat_eq c 48 && nat_eq b 120 then Some 16 else if nat_eq c 48 && nat_eq b 111 then Some 8 else if nat_eq c 48 && nat_eq b 98 then Some 2 else None)

abbrev pub base_in : List ℕ → Option ℕ
base_in [] = None
base_in (c ∷ []) = None
base_in (c ∷ b ∷ cs) = base_mark c b

-- the integer of a magnitude
abbrev pub with_sign : Bool → ℕ → ℤ
with_sign true n = negated n
with_sign false n = pos n

-- the integer behind an optional sign
abbrev pub signed_some : Bool → Option ℕ → Option ℤ
signed_some minus None = None
signed_some minus (Some n) = Some (with_sign minus n)

-- the answer for an integer of one of the forms, or for one out of range
abbrev pub narrowed : Option ℤ → Result ℤ NumFault
narrowed None = Err TooWide
narrowed (Some z) = Ok z

-- the answer for a sign and what was read behind it
abbrev pub answer : Bool → Option ℕ → Result ℤ NumFault
answer minus None = Err NotNumber
answer minus (Some n) = narrowed (in_range (with_sign minus n))
