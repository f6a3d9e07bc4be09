-- Reading characters one by one, to tokens: what each function of the code answers. The code holds the tokens so far, the text of the
-- token that stands open, and what the next character stands in.
use Rattle.std.specs.Prelude.{◌≡◌, ℕ, ◌+◌, ◌==◌, List, [], ◌∷◌, ◌++◌, length, Option, Some, None, Result, Ok, Err, if◌then◌else◌}
use Rattle.std.specs.Str.{bytes_eq}
use Rattle.std.specs.Char.{encode_utf8, len_utf8}
use Rattle.fac_source.specs.declared.token.Token.{Token}
use Rattle.fac_source.specs.declared.token.TokKind.{TokKind}
use Rattle.fac_source.specs.declared.token.TokKind.TheVariants.{Plain, Str}
use Rattle.fac_token.specs.declared.fault.TokenFault.{TokenFault}
use Rattle.fac_token.specs.declared.fault.TokenFault.TheVariants.{OpenString, BadEscape, StuckQuote, Memory}
use Rattle.fac_token.specs.declared.scanner.Mode.{Mode}
use Rattle.fac_token.specs.declared.scanner.Mode.TheVariants.{Between, InPlain, InComment, InString, InEscape, Closed}
use Rattle.fac_token.specs.Lexemes.{is_white, escaped}
use Rattle.fac_token.specs.Tokens.{token_at}

pub record Held : Type 0 where
  pub tokens : List Token
  pub text : List ℕ
  pub mode : Mode

abbrev pub held : List Token → List ℕ → Mode → Result Held TokenFault
held ts text m = Ok (record { tokens = ts; text = text; mode = m })

-- one more token behind others
abbrev pub with_token : ℕ → List Token → TokKind → List Token
with_token file ts kind = ts ++ token_at file (length ts + 1) kind ∷ []

-- white space behind a plain token: a `!` begins a comment
abbrev pub hold_plain_end : ℕ → List Token → List ℕ → ℕ → Result Held TokenFault
hold_plain_end file ts text c = (if bytes_eq text (33 ∷ []) then held ts [] (if c == 10 then Between else InComment) else held (with_token file ts (Plain text)) [] Between)

abbrev pub hold_white : ℕ → List Token → List ℕ → Mode → ℕ → Result Held TokenFault
hold_white file ts text Between c = held ts text Between
hold_white file ts text InPlain c = hold_plain_end file ts text c
hold_white file ts text InComment c = held ts text (if c == 10 then Between else InComment)
hold_white file ts text (InString quote) c = (if c == 10 then Err (OpenString quote) else held ts (text ++ encode_utf8 c) (InString quote))
hold_white file ts text (InEscape quote backslash) c = (if c == 10 then Err (OpenString quote) else Err (BadEscape backslash))
hold_white file ts text Closed c = held (with_token file ts (Str text)) [] Between

-- a quote with n bytes before it
abbrev pub hold_quote : ℕ → List Token → List ℕ → Mode → Result Held TokenFault
hold_quote n ts text Between = held ts text (InString n)
hold_quote n ts text InPlain = Err (StuckQuote n)
hold_quote n ts text InComment = held ts text InComment
hold_quote n ts text (InString quote) = held ts text Closed
hold_quote n ts text (InEscape quote backslash) = held ts (text ++ encode_utf8 34) (InString quote)
hold_quote n ts text Closed = Err (StuckQuote n)

abbrev pub hold_escape : List Token → List ℕ → ℕ → ℕ → Option ℕ → Result Held TokenFault
hold_escape ts text quote backslash (Some c) = held ts (text ++ encode_utf8 c) (InString quote)
hold_escape ts text quote backslash None = Err (BadEscape backslash)

-- another character with n bytes before it
abbrev pub hold_inner : ℕ → List Token → List ℕ → Mode → ℕ → Result Held TokenFault
hold_inner n ts text Between c = held ts (text ++ encode_utf8 c) InPlain
hold_inner n ts text InPlain c = held ts (text ++ encode_utf8 c) InPlain
hold_inner n ts text InComment c = held ts text InComment
hold_inner n ts text (InString quote) c = (if c == 92 then held ts text (InEscape quote n) else held ts (text ++ encode_utf8 c) (InString quote))
hold_inner n ts text (InEscape quote backslash) c = hold_escape ts text quote backslash (escaped c)
hold_inner n ts text Closed c = Err (StuckQuote n)

abbrev pub hold_char : ℕ → ℕ → Held → ℕ → Result Held TokenFault
hold_char file n h c = (if is_white c then hold_white file h.tokens h.text h.mode c else if c == 34 then hold_quote n h.tokens h.text h.mode else hold_inner n h.tokens h.text h.mode c)

abbrev pub hold_end : ℕ → List Token → List ℕ → Mode → Result (List Token) TokenFault
hold_end file ts text Between = Ok ts
hold_end file ts text InPlain = (if bytes_eq text (33 ∷ []) then Ok ts else Ok (with_token file ts (Plain text)))
hold_end file ts text InComment = Ok ts
hold_end file ts text (InString quote) = Err (OpenString quote)
hold_end file ts text (InEscape quote backslash) = Err (OpenString quote)
hold_end file ts text Closed = Ok (with_token file ts (Str text))

-- from n bytes on
abbrev pub hold_from : ℕ → ℕ → Result Held TokenFault → List ℕ → Result (List Token) TokenFault
hold_from file n (Err f) cs = Err f
hold_from file n (Ok h) [] = hold_end file h.tokens h.text h.mode
hold_from file n (Ok h) (c ∷ cs) = hold_from file (n + len_utf8 c) (hold_char file n h c) cs

-- what a step answers, with the tokens and the text that it leaves
abbrev pub Holds : Result Held TokenFault → List Token → List ℕ → Result Mode TokenFault → Type 0
Holds next ts text (Ok m) = next ≡ held ts text m
Holds next ts text (Err Memory) = Unit {0}
Holds next ts text (Err f) = next ≡ Err f

-- what the last step answers
abbrev pub Ends : Result (List Token) TokenFault → Result (List Token) TokenFault → Type 0
Ends last (Ok ts) = last ≡ Ok ts
Ends last (Err Memory) = Unit {0}
Ends last (Err f) = last ≡ Err f
