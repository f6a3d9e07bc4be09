-- Where the tokens of a file stand in its bytes.
use Rattle.std.specs.Prelude.{◌≡◌, ℕ, ◌+◌, ◌==◌, List, [], ◌∷◌, ◌++◌, length, Bool, Result, Ok, Err, if◌then◌else◌}
use Rattle.std.specs.List.{list_any, count_by}
use Rattle.std.specs.Str.{encode_utf8_all}
use Rattle.fac_source.specs.declared.token.Token.{Token}
use Rattle.fac_token.specs.declared.fault.TokenFault.{TokenFault}
use Rattle.fac_token.specs.declared.spotting.Spot.{Spot}
use Rattle.fac_token.specs.Lexemes.{Lexeme, white, comment, plain, string, lexeme_chars, Reading}
use Rattle.fac_token.specs.Tokens.{Spells, HasTokens, Tokenizes}

abbrev pub is_break : ℕ → Bool
is_break c = c == 10

-- the characters behind the last line break, or all where there is none
abbrev pub since_break : List ℕ → List ℕ
since_break [] = []
since_break (c ∷ cs) = (if list_any is_break cs then since_break cs else if is_break c then cs else c ∷ cs)

-- The place of a token that is spelled so, with these characters before it: its line is one more than the line breaks before it, and its column is one more than
-- the characters behind the last of them.
abbrev pub spot_behind : List ℕ → List ℕ → Spot
spot_behind before spelling = record { line = count_by is_break before + 1; column = length (since_break before) + 1; at = length (encode_utf8_all before); end = length (encode_utf8_all (before ++ spelling)) }

-- the places of the tokens of lexemes, with these characters before them
abbrev pub spots_of : List ℕ → List Lexeme → List Spot
spots_of before [] = []
spots_of before (white c ∷ ps) = spots_of (before ++ lexeme_chars (white c)) ps
spots_of before (comment cs ∷ ps) = spots_of (before ++ lexeme_chars (comment cs)) ps
spots_of before (plain cs ∷ ps) = spot_behind before (lexeme_chars (plain cs)) ∷ spots_of (before ++ lexeme_chars (plain cs)) ps
spots_of before (string parts ∷ ps) = spot_behind before (lexeme_chars (string parts)) ∷ spots_of (before ++ lexeme_chars (string parts)) ps

-- the places of the tokens of a reading
pub record HasSpots (bytes : List ℕ) (spots : List Spot) : Type 0 where
  pub chars : List ℕ
  pub ps : List Lexeme
  pub spells : Spells chars bytes
  pub reading : Reading chars ps
  pub are : spots ≡ spots_of [] ps

-- the places of the tokens of a file, or why it has no tokens
abbrev pub Places : List ℕ → Result (List Spot) TokenFault → Type 0
Places bytes (Ok spots) = HasSpots bytes spots
Places bytes (Err fault) = Tokenizes 0 bytes (Err fault)

-- there is a place for each token
abbrev pub EachTokenHasSpot : Type 0
EachTokenHasSpot = (file : ℕ) (bytes : List ℕ) (tokens : List Token) (spots : List Spot) → HasTokens file bytes tokens → HasSpots bytes spots → length spots ≡ length tokens

-- and no two answers
abbrev pub OneListOfSpots : Type 0
OneListOfSpots = (bytes : List ℕ) (spots others : List Spot) → HasSpots bytes spots → HasSpots bytes others → spots ≡ others
