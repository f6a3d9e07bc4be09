-- Places in the text of a file: of a byte, and of a token by its number.
use Rattle.std.specs.Prelude.{◌≡◌, ℕ, ◌+◌, ◌-◌, ◌==◌, List, [], take, slice_get, None, Some, Bool, not, ◌&&◌, nat_le, nat_lt, Err, if◌then◌else◌}
use Rattle.std.specs.declared.option.Option.{Option}
use Rattle.std.specs.List.{count_by}
use Rattle.fac_token.specs.declared.fault.TokenFault.{TokenFault}
use Rattle.fac_token.specs.declared.spotting.Spot.{Spot}
use Rattle.fac_token.specs.Spots.{is_break, since_break, HasSpots}
use Rattle.fac_token.specs.Tokens.{Tokenizes}
use Rattle.fac_token.specs.ReadingLaws.{IsNotMemory}
use Rattle.fac_parse.specs.declared.reader.Why.{Why}
use Rattle.fac_parse.specs.declared.reader.Why.TheVariants as why

-- whether a byte begins a character of UTF-8
abbrev pub begins_character : ℕ → Bool
begins_character b = not (nat_le 128 b && nat_lt b 192)

-- how many characters begin in these bytes
abbrev pub characters : List ℕ → ℕ
characters bytes = count_by begins_character bytes

-- the place of a byte by its number
abbrev pub byte_spot : List ℕ → ℕ → Spot
byte_spot text at = record { line = count_by is_break (take at text) + 1; column = characters (since_break (take at text)) + 1; at = at; end = at + 1 }

-- The places of the tokens of a text. One with a fault has none.
pub data AreSpots (text : List ℕ) : List Spot → Type 0 where
  read : (spots : List Spot) → HasSpots text spots → AreSpots text spots
  faulty : (fault : TokenFault) → IsNotMemory (Err fault) → Tokenizes 0 text (Err fault) → AreSpots text []

-- the place of the token with this number, from 1 on
abbrev pub spot_numbered : List Spot → ℕ → Option Spot
spot_numbered spots number = (if number == 0 then None else slice_get spots (number - 1))

-- the place of a token of a text
abbrev pub IsTokenPlace : List ℕ → ℕ → Option Spot → Type 0
IsTokenPlace text number place = (spots : List Spot) × AreSpots text spots × (place ≡ spot_numbered spots number)

-- the token of a refusal of the grammar: at the end of a file the last one
abbrev pub refused_token : ℕ → Why → ℕ
refused_token at why.End = at - 1
refused_token at why.Other = at
