-- What the texts of files come to: their tokens, and the trees of these.
use Rattle.std.specs.Prelude.{◌≡◌, ℕ, ◌+◌, List, [], ◌∷◌, Ok, Err}
use Rattle.fac_source.specs.declared.token.Token.{Token}
use Rattle.fac_token.specs.declared.fault.TokenFault.{TokenFault}
use Rattle.fac_token.specs.declared.fault.TokenFault.TheVariants as token
use Rattle.fac_token.specs.Tokens.{Tokenizes}
use Rattle.fac_parse.specs.Trees.{Reads, Misses}
use Rattle.fac_prelude.specs.PreludeText.{prelude_text}
use Rattle.fac_notes.specs.declared.report.ByteFault.{ByteFault}
use Rattle.fac_notes.specs.declared.report.ByteFault.TheVariants as byte
use Rattle.fac_notes.specs.Sources.{Source, no_tokens, no_tree, tree}

abbrev pub token_fault : ℕ → ByteFault → TokenFault
token_fault at byte.NotUtf8 = token.NotUtf8 at
token_fault at byte.OpenString = token.OpenString at
token_fault at byte.BadEscape = token.BadEscape at
token_fault at byte.StuckQuote = token.StuckQuote at

-- what these tokens come to
abbrev pub IsParsedAs : List Token → Source → Type 0
IsParsedAs tokens (no_tokens at why) = ⊥
IsParsedAs tokens (no_tree at why) = Misses tokens at why
IsParsedAs tokens (tree forms) = Reads tokens forms

-- what a file of this number with this text comes to
abbrev pub IsReadAs : ℕ → List ℕ → Source → Type 0
IsReadAs file text (no_tokens at why) = Tokenizes file text (Err (token_fault at why))
IsReadAs file text (no_tree at why) = (tokens : List Token) × Tokenizes file text (Ok tokens) × IsParsedAs tokens (no_tree at why)
IsReadAs file text (tree forms) = (tokens : List Token) × Tokenizes file text (Ok tokens) × IsParsedAs tokens (tree forms)

-- what files numbered from `file` on come to, each by itself
abbrev pub AreReadAs : ℕ → List (List ℕ) → List Source → Type 0
AreReadAs file [] [] = Unit {0}
AreReadAs file [] (source ∷ sources) = ⊥
AreReadAs file (text ∷ texts) [] = ⊥
AreReadAs file (text ∷ texts) (source ∷ sources) = IsReadAs file text source × AreReadAs (file + 1) texts sources

-- what the prelude and the files of a command come to, each by itself; the prelude is file 0, and the command's files stand behind it
abbrev pub AreReadWithPrelude : List (List ℕ) → List Source → Type 0
AreReadWithPrelude texts sources = AreReadAs 0 (prelude_text ∷ texts) sources

-- no texts come to two things, so what a command answers is a function of its files' bytes
abbrev pub OneSource : Type 0
OneSource = (file : ℕ) (texts : List (List ℕ)) (one other : List Source) → AreReadAs file texts one → AreReadAs file texts other → one ≡ other

-- and each come to something
abbrev pub EverySource : Type 0
EverySource = (file : ℕ) (texts : List (List ℕ)) → (sources : List Source) × AreReadAs file texts sources
