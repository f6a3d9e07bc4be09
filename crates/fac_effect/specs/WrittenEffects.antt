-- Stack effects as they are written, with all of their tokens, and what they say.
use Rattle.std.specs.Prelude.{◌≡◌, ◌≤◌, ◌+◌, ◌-◌, ℕ, suc, List, [], ◌∷◌, ◌++◌, length, take, Bool, true, false, Option, Some, None, codes, if◌then◌else◌}
use Rattle.std.specs.Str.{bytes_eq}
use Rattle.fac_base.specs.declared.limits.TheConstants.{MOST_NAMES}
use Rattle.fac_base.specs.declared.place.Place.{Place}
use Rattle.fac_source.specs.declared.token.Token.{Token}
use Rattle.fac_base.specs.Signatures.{Signature, signature, Inputs, no_inputs, value, quoted, Leaving, never, leaves}
use Rattle.fac_effect.specs.declared.spelling.Spelling.TheVariants.{Name}
use Rattle.fac_effect.specs.Spellings.{token_text, plain_token, token_spelling, is_row_name, is_described_name}

mutual
  -- `(`, the entries of the inputs, `--`, those of the outputs, and `)`
  pub data Written : Type 0 where
    written : Place → Entries → Place → Entries → Place → Written

  -- The entries of a side, in order: a name, a name that ends in a colon with a name behind it, and one with an effect behind it.
  pub data Entries : Type 0 where
    no_entries : Entries
    plain : Token → Entries → Entries
    described : Token → Token → Entries → Entries
    detailed : Token → Written → Entries → Entries

-- all tokens, in order
abbrev mutual
  pub written_tokens : Written → List Token
  written_tokens (written opens ins dashes outs closes) =
      plain_token opens (codes "(") ∷ (entries_tokens ins ++ plain_token dashes (codes "--") ∷ (entries_tokens outs ++ plain_token closes (codes ")") ∷ []))

  pub entries_tokens : Entries → List Token
  entries_tokens no_entries = []
  entries_tokens (plain name es) = name ∷ entries_tokens es
  entries_tokens (described name class es) = name ∷ class ∷ entries_tokens es
  entries_tokens (detailed name w es) = name ∷ written_tokens w ++ entries_tokens es

-- How many names there are: every token but `(`, `)` and `--` is one.
abbrev mutual
  pub written_names : Written → ℕ
  written_names (written opens ins dashes outs closes) = entries_names ins + entries_names outs

  pub entries_names : Entries → ℕ
  entries_names no_entries = 0
  entries_names (plain name es) = suc (entries_names es)
  entries_names (described name class es) = suc (suc (entries_names es))
  entries_names (detailed name w es) = suc (written_names w + entries_names es)

-- whether a name begins with two dots, as that of a row variable, and whether it ends in a colon
abbrev pub is_row : Token → Bool
is_row t = is_row_name (token_text t.kind)

abbrev pub is_colon : Token → Bool
is_colon t = is_described_name (token_text t.kind)

-- a name that doesn't end in a colon, and one that does
abbrev pub IsPlainName : Token → Type 0
IsPlainName t = (token_spelling t.kind ≡ Name) × (is_colon t ≡ false)

abbrev pub IsColonName : Token → Type 0
IsColonName t = (token_spelling t.kind ≡ Name) × (is_colon t ≡ true)

-- Only the first entry of a side may be a row variable.
abbrev mutual
  pub IsWritten : Written → Type 0
  IsWritten (written opens ins dashes outs closes) = IsSide ins × IsSide outs

  -- a side
  pub IsSide : Entries → Type 0
  IsSide no_entries = Unit {0}
  IsSide (plain name es) = IsPlainName name × AreValues es
  IsSide (described name class es) = IsColonName name × IsPlainName class × AreValues es
  IsSide (detailed name w es) = IsColonName name × IsWritten w × AreValues es

  -- entries that are no row variables
  pub AreValues : Entries → Type 0
  AreValues no_entries = Unit {0}
  AreValues (plain name es) = IsPlainName name × (is_row name ≡ false) × AreValues es
  AreValues (described name class es) = IsColonName name × (is_row name ≡ false) × IsPlainName class × AreValues es
  AreValues (detailed name w es) = IsColonName name × (is_row name ≡ false) × IsWritten w × AreValues es

-- the most names of an effect
abbrev pub most_names : ℕ
most_names = MOST_NAMES

-- a name without the colon in which it ends
abbrev pub without_colon : List ℕ → List ℕ
without_colon text = take (length text - 1) text

-- the name of an entry
abbrev pub plain_name : Token → List ℕ
plain_name t = token_text t.kind

abbrev pub colon_name : Token → List ℕ
colon_name t = without_colon (token_text t.kind)

-- the row variable of a side, where its first entry is one
abbrev pub row_if : Bool → List ℕ → Option (List ℕ)
row_if true name = Some name
row_if false name = None

abbrev pub row_in : Entries → Option (List ℕ)
row_in no_entries = None
row_in (plain name es) = row_if (is_row name) (plain_name name)
row_in (described name class es) = row_if (is_row name) (colon_name name)
row_in (detailed name w es) = row_if (is_row name) (colon_name name)

-- the entries of a side without its row variable
abbrev pub values_in : Entries → Entries
values_in no_entries = no_entries
values_in (plain name es) = (if is_row name then es else plain name es)
values_in (described name class es) = (if is_row name then es else described name class es)
values_in (detailed name w es) = (if is_row name then es else detailed name w es)

-- the names of outputs; a class or an effect behind one is documentation
abbrev pub output_names : Entries → List (List ℕ)
output_names no_entries = []
output_names (plain name es) = plain_name name ∷ output_names es
output_names (described name class es) = colon_name name ∷ output_names es
output_names (detailed name w es) = colon_name name ∷ output_names es

-- what is left: nothing where `*` is all of the side, since the word never returns
abbrev pub leaving_in : Entries → Leaving
leaving_in (plain name no_entries) = (if bytes_eq (plain_name name) (codes "*") then never else leaves (row_in (plain name no_entries)) (output_names (values_in (plain name no_entries))))
leaving_in es = leaves (row_in es) (output_names (values_in es))

-- What an effect says. A class behind the name of an input is documentation.
abbrev mutual
  pub said : Written → Signature
  said (written opens ins dashes outs closes) = signature (row_in ins) (side_inputs ins) (leaving_in outs)

  -- the inputs of a side, without its row variable
  pub side_inputs : Entries → Inputs
  side_inputs no_entries = no_inputs
  side_inputs (plain name es) = (if is_row name then inputs_of es else value (plain_name name) (inputs_of es))
  side_inputs (described name class es) = (if is_row name then inputs_of es else value (colon_name name) (inputs_of es))
  side_inputs (detailed name w es) = (if is_row name then inputs_of es else quoted (colon_name name) (said w) (inputs_of es))

  pub inputs_of : Entries → Inputs
  inputs_of no_entries = no_inputs
  inputs_of (plain name es) = value (plain_name name) (inputs_of es)
  inputs_of (described name class es) = value (colon_name name) (inputs_of es)
  inputs_of (detailed name w es) = quoted (colon_name name) (said w) (inputs_of es)

-- These are the tokens of an effect, and this is what they say.
pub record IsEffect (tokens : List Token) (effect : Signature) : Type 0 where
  pub tree : Written
  pub fits : IsWritten tree
  pub few : written_names tree ≤ most_names
  pub spelled : written_tokens tree ≡ tokens
  pub says : said tree ≡ effect

-- some effect begins with these tokens
pub record BeginsEffect (tokens : List Token) : Type 0 where
  pub rest : List Token
  pub effect : Signature
  pub is : IsEffect (tokens ++ rest) effect

-- these tokens begin an effect, which has at least one more
pub record IsUnfinished (tokens : List Token) : Type 0 where
  pub next : Token
  pub rest : List Token
  pub effect : Signature
  pub is : IsEffect (tokens ++ next ∷ rest) effect
