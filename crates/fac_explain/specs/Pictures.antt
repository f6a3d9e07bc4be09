-- The line of a place, and the marks below it.
use Rattle.std.specs.Prelude.{ℕ, zero, suc, ◌+◌, ◌-◌, ◌==◌, List, [], ◌∷◌, ◌++◌, take, drop, map, max, min, replicate, None, Some, Bool, not, ◌&&◌, nat_le, codes, decimal, if◌then◌else◌}
use Rattle.std.specs.declared.option.Option.{Option}
use Rattle.fac_token.specs.declared.spotting.Spot.{Spot}
use Rattle.fac_token.specs.Spots.{is_break, since_break}
use Rattle.fac_explain.specs.declared.pictures.TheConstants.{MOST_SHOWN, BEFORE_PLACE}
use Rattle.fac_explain.specs.Places.{begins_character, characters}

-- the bytes before the first line break, or all where there is none
abbrev pub until_break : List ℕ → List ℕ
until_break [] = []
until_break (b ∷ bs) = (if is_break b then [] else b ∷ until_break bs)

-- the line of a byte, without its line break
abbrev pub line_around : List ℕ → ℕ → List ℕ
line_around text at = since_break (take at text) ++ until_break (drop at text)

-- a byte of a text, with another one in place of a control character of ASCII
abbrev pub plain_byte : ℕ → ℕ → ℕ
plain_byte instead b = (if nat_le 32 b && not (b == 127) then b else instead)

abbrev pub plain : ℕ → List ℕ → List ℕ
plain instead text = map (plain_byte instead) text

-- how many bytes the first so many characters have
abbrev pub bytes_of_first : ℕ → List ℕ → ℕ
bytes_of_first k [] = 0
bytes_of_first zero (b ∷ bs) = (if begins_character b then 0 else suc (bytes_of_first zero bs))
bytes_of_first (suc k) (b ∷ bs) = suc (if begins_character b then bytes_of_first k bs else bytes_of_first (suc k) bs)

-- The characters of a line that aren't shown before a place in this column: a long line is shown from near the place on.
abbrev pub left_out : List ℕ → ℕ → ℕ
left_out line column = (if nat_le (characters line) MOST_SHOWN then 0 else column - BEFORE_PLACE)

-- the bytes behind the first so many characters, and those of these alone
abbrev pub behind_first : ℕ → List ℕ → List ℕ
behind_first k line = drop (bytes_of_first k line) line

abbrev pub first_of_line : ℕ → List ℕ → List ℕ
first_of_line k line = take (bytes_of_first k line) line

-- what is shown of a line
abbrev pub shown_part : List ℕ → ℕ → List ℕ
shown_part line column = first_of_line MOST_SHOWN (behind_first (left_out line column) line)

-- how many characters of what is shown stand before the place
abbrev pub gap : List ℕ → ℕ → ℕ
gap line column = column - 1 - left_out line column

-- the marks of a token: one for each of its characters that is shown, and at least one
abbrev pub marks : List ℕ → List ℕ → ℕ → ℕ
marks line token column = max 1 (min (characters token) (characters (shown_part line column) - gap line column))

-- The line of a token, with a space for each control character, and its marks below.
abbrev pub marked : List ℕ → List ℕ → ℕ → List ℕ
marked line token column =
    (codes "    " ++ plain 32 (shown_part line column) ++ codes "\n    ") ++
    (replicate (gap line column) 32 ++ replicate (marks line token column) 94 ++ codes "\n")

-- how the token at a place is spelled
abbrev pub spelling_at : List ℕ → Spot → List ℕ
spelling_at text spot = drop spot.at (take spot.end text)

abbrev pub marked_at : List ℕ → Option Spot → List ℕ
marked_at text None = []
marked_at text (Some spot) = marked (line_around text spot.at) (spelling_at text spot) spot.column

-- a name or a token as it is told, with a question mark for each control character
abbrev pub told : List ℕ → List ℕ
told text = plain 63 text

-- a token as it is told, and a place as editors read it: the file, the line and the column
abbrev pub token_text : List ℕ → Option Spot → List ℕ
token_text text None = []
token_text text (Some spot) = told (spelling_at text spot)

abbrev pub place_text : List ℕ → Option Spot → List ℕ
place_text name None = []
place_text name (Some spot) = (told name ++ codes ":" ++ decimal spot.line) ++ (codes ":" ++ decimal spot.column ++ codes ": ")
