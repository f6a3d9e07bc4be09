-- Places of tokens, computed.
use Rattle.std.proofs.Common.{◌≡◌, ℕ, [], ◌∷◌, refl}
use Rattle.std.specs.Char.{encode_utf8}
use Rattle.fac_token.specs.declared.spotting.Spot.{Spot}
use Rattle.fac_token.specs.Lexemes.{white, comment, plain, string, itself, escape}
use Rattle.fac_token.specs.Spots.{since_break, spots_of}

abbrev spot : ℕ → ℕ → ℕ → ℕ → Spot
spot line column at end = record { line = line; column = column; at = at; end = end }

-- two tokens in a line, and one in the next, behind a tab
in_lines : spots_of [] (plain (97 ∷ []) ∷ white 32 ∷ plain (98 ∷ 98 ∷ []) ∷ white 10 ∷ white 9 ∷ plain (99 ∷ []) ∷ []) ≡ spot 1 1 0 1 ∷ spot 1 3 2 4 ∷ spot 2 2 6 7 ∷ []
unfolding encode_utf8
in_lines = refl

-- a character of three bytes is one column
wide : spots_of [] (plain (8364 ∷ []) ∷ white 32 ∷ plain (97 ∷ []) ∷ []) ≡ spot 1 1 0 3 ∷ spot 1 3 4 5 ∷ []
unfolding encode_utf8
wide = refl

-- a byte 13 before the line break is a character of the line that ends
returns : spots_of [] (plain (97 ∷ []) ∷ white 13 ∷ white 10 ∷ plain (98 ∷ []) ∷ []) ≡ spot 1 1 0 1 ∷ spot 2 1 3 4 ∷ []
unfolding encode_utf8
returns = refl

-- a comment is no token, and its line goes on to its break
comments : spots_of [] (comment (32 ∷ 97 ∷ []) ∷ white 10 ∷ plain (98 ∷ []) ∷ []) ≡ spot 2 1 4 5 ∷ []
unfolding encode_utf8
comments = refl

-- a string is spelled with its quotes and its escapes
strings : spots_of [] (string (itself 97 ∷ escape 110 ∷ []) ∷ white 32 ∷ plain (98 ∷ []) ∷ []) ≡ spot 1 1 0 5 ∷ spot 1 7 6 7 ∷ []
unfolding encode_utf8
strings = refl

-- the characters behind the last break
last_line : since_break (97 ∷ 10 ∷ 98 ∷ 10 ∷ 99 ∷ 100 ∷ []) ≡ 99 ∷ 100 ∷ []
last_line = refl
