-- What a text comes to: a fault of its tokens, a refusal of its grammar, or a tree.
use Rattle.std.specs.Prelude.{◌≡◌, ℕ, List, Ok, Err}
use Rattle.fac_source.specs.declared.token.Token.{Token}
use Rattle.fac_token.specs.declared.fault.TokenFault.{TokenFault}
use Rattle.fac_token.specs.declared.fault.TokenFault.TheVariants as token
use Rattle.fac_token.specs.Tokens.{Tokenizes}
use Rattle.fac_parse.specs.Trees.{Reads, Misses}
use Rattle.fac_notes.specs.declared.report.ByteFault.{ByteFault}
use Rattle.fac_notes.specs.declared.report.ByteFault.TheVariants as byte
use Rattle.fac_notes.specs.Sources.{Source, no_tokens, no_tree, tree}

abbrev pub token_fault : ℕ → ByteFault → TokenFault
token_fault at byte.NotUtf8 = token.NotUtf8 at
token_fault at byte.OpenString = token.OpenString at
token_fault at byte.BadEscape = token.BadEscape at
token_fault at byte.StuckQuote = token.StuckQuote at

-- what these tokens come to
abbrev pub IsParsedAs : List Token → Source → Type 0
IsParsedAs tokens (no_tokens at why) = ⊥
IsParsedAs tokens (no_tree at why) = Misses tokens at why
IsParsedAs tokens (tree forms) = Reads tokens forms

-- what a file of this number with this text comes to
abbrev pub IsReadAs : ℕ → List ℕ → Source → Type 0
IsReadAs file text (no_tokens at why) = Tokenizes file text (Err (token_fault at why))
IsReadAs file text (no_tree at why) = (tokens : List Token) × Tokenizes file text (Ok tokens) × IsParsedAs tokens (no_tree at why)
IsReadAs file text (tree forms) = (tokens : List Token) × Tokenizes file text (Ok tokens) × IsParsedAs tokens (tree forms)

-- no text comes to two things
abbrev pub OneSource : Type 0
OneSource = (file : ℕ) (text : List ℕ) (one other : Source) → IsReadAs file text one → IsReadAs file text other → one ≡ other

-- and each comes to something
abbrev pub EverySource : Type 0
EverySource = (file : ℕ) (text : List ℕ) → (source : Source) × IsReadAs file text source
