-- Following the scanner: what stands behind each of its steps.
use Rattle.std.specs.Prelude.{ℕ, ◌+◌, List, [], ◌∷◌, ◌++◌, length, Bool, true, false, if◌then◌else◌}
use Rattle.std.specs.List.{count_by}
use Rattle.std.specs.Str.{encode_utf8_all}
use Rattle.std.specs.Char.{len_utf8}
use Rattle.fac_token.specs.declared.scanner.Mode.{Mode}
use Rattle.fac_token.specs.declared.scanner.Mode.TheVariants.{Between, InPlain, InComment, InString, InEscape, Closed}
use Rattle.fac_token.specs.declared.spotting.Here.{Here}
use Rattle.fac_token.specs.declared.spotting.Spot.{Spot}
use Rattle.fac_token.specs.Spots.{is_break, since_break}

-- the place behind characters
abbrev pub here_behind : List ℕ → Here
here_behind cs = record { line = count_by is_break cs + 1; column = length (since_break cs) + 1; at = length (encode_utf8_all cs) }

-- a character further on
abbrev pub passed : Here → ℕ → Here
passed here c = (if is_break c then record { line = here.line + 1; column = 1; at = here.at + len_utf8 c } else record { line = here.line; column = here.column + 1; at = here.at + len_utf8 c })

-- whether a token stands open, or what may turn out to begin a comment
abbrev pub mode_open : Mode → Bool
mode_open Between = false
mode_open InPlain = true
mode_open InComment = false
mode_open (InString quote) = true
mode_open (InEscape quote backslash) = true
mode_open Closed = true

-- the place of a token that began and ends so
abbrev pub spot_from : Here → ℕ → Spot
spot_from start end = record { line = start.line; column = start.column; at = start.at; end = end }

-- one place more, where a token has ended
abbrev pub finished : List Spot → Here → Bool → ℕ → List Spot
finished spots start true end = spots ++ spot_from start end ∷ []
finished spots start false end = spots

-- where the token that stands open began, by whether one stood open before and one does now
abbrev pub started : Here → Here → Bool → Bool → Here
started start here false true = here
started start here _ _ = start
