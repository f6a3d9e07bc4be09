-- Texts: UTF-8 behind its length in bytes.
use Rattle.std.specs.Prelude.{ℕ, zero, suc, ◌-◌, List, [], ◌∷◌, ◌++◌, length, get_or, take, drop, Bool, nat_lt, nat_eq, ◌&&◌, ◌||◌, if◌then◌else◌}
use Rattle.fac_spelling.specs.Formats.{Format, follow, seen, nothing}
use Rattle.fac_spelling.specs.Numbers.{in_range, number32}
use Rattle.fac_spelling.specs.Bytes.{byte, Range, continues, in_ranges}

-- the second byte of a character, by its first
abbrev pub second_range : ℕ → Range
second_range b =
    if nat_eq b 0xE0 then record { low = 0xA0; high = 0xBF }
    else (if nat_eq b 0xED then record { low = 0x80; high = 0x9F }
    else (if nat_eq b 0xF0 then record { low = 0x90; high = 0xBF }
    else (if nat_eq b 0xF4 then record { low = 0x80; high = 0x8F } else continues)))

-- the bytes that follow a character's first byte
abbrev pub others : ℕ → List Range
others b =
    if nat_lt b 0x80 then []
    else (if nat_lt b 0xE0 then continues ∷ []
    else (if nat_lt b 0xF0 then second_range b ∷ continues ∷ [] else second_range b ∷ continues ∷ continues ∷ []))

-- the first byte of a character that has room in so many bytes
abbrev pub leads : ℕ → ℕ → Bool
leads room b = (nat_lt b 0x80 || in_range 0xC2 0xF4 b) && nat_lt (length (others b)) room

-- a character in so many bytes, as its bytes
abbrev pub character : ℕ → Format (List ℕ)
character room = seen (λ bs. (get_or bs 0 256, drop 1 bs)) (λ p. p.0 ∷ p.1) (follow (byte (leads room)) (λ b. in_ranges (others b)))

-- how many bytes the character at the front has
abbrev pub width : List ℕ → ℕ
width bs = suc (length (others (get_or bs 0 0)))

-- exactly so many bytes of characters, of which there are at most `most`
unfoldable pub characters : ℕ → ℕ → Format (List ℕ)
characters most zero = nothing []
characters zero (suc room) = nothing []
characters (suc most) (suc room) = seen (λ bs. (take (width bs) bs, drop (width bs) bs)) (λ p. p.0 ++ p.1) (follow (character (suc room)) (λ c. characters most (suc room - length c)))

abbrev pub text : Format (List ℕ)
text = seen (λ bs. (length bs, bs)) (λ p. p.1) (follow number32 (λ n. characters n n))
