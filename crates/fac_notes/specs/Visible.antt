-- Names as notes tell them: on one line, and with no orders for a terminal.
use Rattle.std.specs.Prelude.{◌==◌, ℕ, List, map, not, ◌&&◌, nat_le, if◌then◌else◌}

-- a byte of a name: a control character of ASCII is a question mark
abbrev pub visible_byte : ℕ → ℕ
visible_byte b = (if nat_le 32 b && not (b == 127) then b else 63)

-- a name of a file, a word, a vocabulary or a token
abbrev pub visible : List ℕ → List ℕ
visible name = map visible_byte name
