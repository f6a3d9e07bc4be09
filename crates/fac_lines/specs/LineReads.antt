-- The lines of bytes.
use Rattle.std.specs.Prelude.{◌≡◌, ◌==◌, ◌≤◌, ◌+◌, ℕ, nat_le, List, [], ◌∷◌, length, take, drop, Bool, if◌then◌else◌}
use Rattle.std.specs.List.{position_or_len}
use Rattle.fac_base.specs.declared.limits.TheConstants.{MOST_LINE_BYTES}

abbrev pub is_newline : ℕ → Bool
is_newline byte = byte == 10

-- how many bytes stand before the first newline, or before the end
abbrev pub line_length : List ℕ → ℕ
line_length bytes = position_or_len is_newline bytes

-- what bytes begin with: nothing, a line with what stands behind its newline, or more bytes than a line may have before a newline, with what stands behind the first of them
pub data LineRead : Type 0 where
  NoLine : LineRead
  Line : List ℕ → List ℕ → LineRead
  LineTooLong : List ℕ → LineRead

-- the first line of bytes, where a line may have so many
unfoldable pub line_within : ℕ → List ℕ → LineRead
line_within most [] = NoLine
line_within most (b ∷ bs) = (if nat_le (line_length (b ∷ bs)) most then Line (take (line_length (b ∷ bs)) (b ∷ bs)) (drop (line_length (b ∷ bs) + 1) (b ∷ bs)) else LineTooLong (drop (most + 1) (b ∷ bs)))

-- the first line of bytes
abbrev pub line_of : List ℕ → LineRead
line_of bytes = line_within MOST_LINE_BYTES bytes

-- bytes that may stand at the front of a line: no newline is among them, and they are no more than a line may have
pub record IsFront (bytes : List ℕ) : Type 0 where
  pub no_newline : line_length bytes ≡ length bytes
  pub most : length bytes ≤ MOST_LINE_BYTES
