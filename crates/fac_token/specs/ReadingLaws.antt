-- Laws of readings and of the answers.
use Rattle.std.specs.Prelude.{ℕ, ◌≡◌, List, ◌⊎◌, Result, Ok, Err}
use Rattle.fac_source.specs.declared.token.Token.{Token}
use Rattle.fac_token.specs.declared.fault.TokenFault.{TokenFault}
use Rattle.fac_token.specs.declared.fault.TokenFault.TheVariants.{Memory}
use Rattle.fac_token.specs.Tokens.{Tokenizes}
use Rattle.fac_token.specs.Lexemes.{Lexeme, Reading, Fault, FirstFault}

abbrev pub ReadOrFaulty : Type 0
ReadOrFaulty = (chars : List ℕ) → ((ps : List Lexeme) × Reading chars ps) ⊎ ((f : Fault) × FirstFault chars f)

abbrev pub NotBoth : Type 0
NotBoth = (chars : List ℕ) (ps : List Lexeme) (f : Fault) → Reading chars ps → FirstFault chars f → ⊥

abbrev pub OneReading : Type 0
OneReading = (chars : List ℕ) (ps qs : List Lexeme) → Reading chars ps → Reading chars qs → ps ≡ qs

abbrev pub OneFirstFault : Type 0
OneFirstFault = (chars : List ℕ) (f g : Fault) → FirstFault chars f → FirstFault chars g → f ≡ g

abbrev pub IsNotMemory : Result (List Token) TokenFault → Type 0
IsNotMemory (Ok tokens) = Unit {0}
IsNotMemory (Err Memory) = ⊥
IsNotMemory (Err f) = Unit {0}

abbrev pub OneAnswer : Type 0
OneAnswer = (file : ℕ) (bytes : List ℕ) (r t : Result (List Token) TokenFault) → IsNotMemory r → IsNotMemory t → Tokenizes file bytes r → Tokenizes file bytes t → r ≡ t

-- each file has an answer besides want of memory
abbrev pub EveryFileAnswers : Type 0
EveryFileAnswers = (file : ℕ) (bytes : List ℕ) → (r : Result (List Token) TokenFault) × IsNotMemory r × Tokenizes file bytes r
