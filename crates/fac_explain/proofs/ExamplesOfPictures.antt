-- Pictures and places that compute, as they were written by hand.
use Rattle.std.specs.Prelude.{◌≡◌, refl, [], ◌∷◌, ◌++◌, codes}
use Rattle.fac_explain.specs.Places.{byte_spot, characters}
use Rattle.fac_explain.specs.Pictures.{line_around, marked, bytes_of_first}

-- the line of the second break's text, from any of its bytes on
second_line : line_around (codes "ab\ncd ef\ngh") 6 ≡ codes "cd ef"
second_line = refl

-- a letter of two bytes is one character
two_bytes : characters (97 ∷ 195 ∷ 169 ∷ 98 ∷ []) ≡ 3
two_bytes = refl

first_two : bytes_of_first 2 (97 ∷ 195 ∷ 169 ∷ 98 ∷ []) ≡ 3
first_two = refl

-- behind a letter of two bytes in the second line
column : byte_spot (codes "a\n" ++ (195 ∷ 169 ∷ codes " \"b")) 5 ≡ record { line = 2; column = 3; at = 5; end = 6 }
column = refl

-- the marks of a token of two characters, where a tab is shown as a space
short : marked (codes "1\t2 ++ 3") (codes "++") 5 ≡ codes "    1 2 ++ 3\n        ^^\n"
short = refl
