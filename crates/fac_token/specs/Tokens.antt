-- The tokens of a file: those of the lexemes of its characters.
use Rattle.std.specs.Prelude.{◌≡◌, ℕ, ◌+◌, List, [], ◌∷◌, ◌++◌, length, true, Option, Some, None, Result, Ok, Err}
use Rattle.std.specs.Str.{encode_utf8_all, all_scalars, IsUtf8, IsValidUpTo}
use Rattle.fac_source.specs.declared.token.Token.{Token}
use Rattle.fac_source.specs.declared.token.TokKind.{TokKind}
use Rattle.fac_source.specs.declared.token.TokKind.TheVariants.{Plain, Str}
use Rattle.fac_token.specs.declared.fault.TokenFault.{TokenFault}
use Rattle.fac_token.specs.declared.fault.TokenFault.TheVariants.{NotUtf8, OpenString, BadEscape, StuckQuote, Memory}
use Rattle.fac_token.specs.Lexemes.{escaped, StringPart, itself, escape, Lexeme, white, comment, plain, string, Reading, Fault, open_string, bad_escape, stuck_quote, FirstFault}

abbrev pub escape_content : Option ℕ → List ℕ
escape_content (Some c) = c ∷ []
escape_content None = []

abbrev pub part_content : StringPart → List ℕ
part_content (itself c) = c ∷ []
part_content (escape c) = escape_content (escaped c)

-- what a string says
abbrev pub content : List StringPart → List ℕ
content [] = []
content (p ∷ ps) = part_content p ++ content ps

-- the tokens of lexemes
abbrev pub kinds : List Lexeme → List TokKind
kinds [] = []
kinds (white c ∷ ps) = kinds ps
kinds (comment cs ∷ ps) = kinds ps
kinds (plain cs ∷ ps) = Plain (encode_utf8_all cs) ∷ kinds ps
kinds (string parts ∷ ps) = Str (encode_utf8_all (content parts)) ∷ kinds ps

abbrev pub token_at : ℕ → ℕ → TokKind → Token
token_at file n kind = record { place = record { file = file; token = n }; kind = kind }

-- with numbers from n on
abbrev pub numbered : ℕ → ℕ → List TokKind → List Token
numbered file n [] = []
numbered file n (kind ∷ kinds) = token_at file n kind ∷ numbered file (n + 1) kinds

-- these are the characters of these bytes
pub record Spells (chars bytes : List ℕ) : Type 0 where
  pub scalars : all_scalars chars ≡ true
  pub encoded : encode_utf8_all chars ≡ bytes

-- the tokens of a reading
pub record HasTokens (file : ℕ) (bytes : List ℕ) (tokens : List Token) : Type 0 where
  pub chars : List ℕ
  pub ps : List Lexeme
  pub spells : Spells chars bytes
  pub reading : Reading chars ps
  pub are : tokens ≡ numbered file 1 (kinds ps)

-- the first fault, and the bytes before the character that it names
pub record HasFault (bytes : List ℕ) (fault : List ℕ → Fault) (at : ℕ) : Type 0 where
  pub chars : List ℕ
  pub before : List ℕ
  pub spells : Spells chars bytes
  pub first : FirstFault chars (fault before)
  pub offset : at ≡ length (encode_utf8_all before)

-- the tokens of a file, or why there are none
abbrev pub Tokenizes : ℕ → List ℕ → Result (List Token) TokenFault → Type 0
Tokenizes file bytes (Ok tokens) = HasTokens file bytes tokens
Tokenizes file bytes (Err (NotUtf8 at)) = ¬ (IsUtf8 bytes) × IsValidUpTo bytes at
Tokenizes file bytes (Err (OpenString at)) = HasFault bytes open_string at
Tokenizes file bytes (Err (BadEscape at)) = HasFault bytes bad_escape at
Tokenizes file bytes (Err (StuckQuote at)) = HasFault bytes stuck_quote at
Tokenizes file bytes (Err Memory) = Unit {0}
