-- Integers as numbers: 0, -1, 1, -2, 2 and so on are numbered from 0.
use Rattle.std.specs.Prelude.{ℕ, ◌+◌, ◌*◌, ◌/◌, ◌%◌, nat_eq, if◌then◌else◌, ℤ, pos, negsuc}
use Rattle.fac_spelling.specs.Formats.{Format, seen}
use Rattle.fac_spelling.specs.Numbers.{number, greatest128}

abbrev pub zigzag : ℤ → ℕ
zigzag (pos n) = 2 * n
zigzag (negsuc n) = 2 * n + 1

abbrev pub unzigzag : ℕ → ℤ
unzigzag n = if nat_eq (n % 2) 0 then pos (n / 2) else negsuc (n / 2)

-- an integer of 128 bits
abbrev pub integer : Format ℤ
integer = seen zigzag unzigzag (number 0 greatest128)
