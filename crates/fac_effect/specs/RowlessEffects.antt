-- Effects without row variables at any depth, as calls declare them, and how they are read.
use Rattle.std.specs.Prelude.{◌≡◌, List, ◌∷◌, ◌++◌, Bool, true, not, ◌&&◌, codes}
use Rattle.fac_base.specs.declared.place.Place.{Place}
use Rattle.fac_source.specs.declared.token.Token.{Token}
use Rattle.fac_base.specs.Signatures.{Signature}
use Rattle.fac_effect.specs.declared.spelling.Spelling.{Spelling}
use Rattle.fac_effect.specs.declared.spelling.Spelling.TheVariants as spelled
use Rattle.fac_effect.specs.declared.effect_reader.EffectReader.{EffectReader}
use Rattle.fac_effect.specs.Spellings.{plain_token}
use Rattle.fac_effect.specs.WrittenEffects.{Written, written, Entries, no_entries, plain, described, detailed, is_row, IsEffect}
use Rattle.fac_effect.specs.EffectReading.{Progress, reads, opened, may_end, all_pass, run}

-- whether no entry is a row variable, nor one of the effects that describe entries
abbrev mutual
  pub is_rowless : Written → Bool
  is_rowless (written opens ins dashes outs closes) = are_rowless ins && are_rowless outs

  pub are_rowless : Entries → Bool
  are_rowless no_entries = true
  are_rowless (plain name es) = not (is_row name) && are_rowless es
  are_rowless (described name class es) = not (is_row name) && are_rowless es
  are_rowless (detailed name w es) = not (is_row name) && (is_rowless w && are_rowless es)

-- the tokens of an effect, where these stand behind its `(`
abbrev pub opened_tokens : Place → List Token → List Token
opened_tokens opens tokens = plain_token opens (codes "(") ∷ tokens

-- These tokens stand behind the `(` of an effect without row variables, and this is what it says.
pub record IsRowless (opens : Place) (tokens : List Token) (effect : Signature) : Type 0 where
  pub is : IsEffect (opened_tokens opens tokens) effect
  pub rowless : is_rowless is.tree ≡ true

-- these tokens begin such an effect behind its `(`, and it has at least one more
pub record IsUnfinishedRowless (opens : Place) (tokens : List Token) : Type 0 where
  pub next : Token
  pub rest : List Token
  pub effect : Signature
  pub is : IsRowless opens (tokens ++ next ∷ rest) effect

-- How such an effect is read.

-- how far the tokens behind the `(` of an effect are read
abbrev pub behind_opens : List Token → Progress
behind_opens tokens = run (reads opened) tokens

-- whether a token that goes on with an effect is no row variable
abbrev pub is_no_row : EffectReader → Spelling → Token → Bool
is_no_row r spelled.Name t = not (may_end r.spot && is_row t)
is_no_row r _ t = true

-- whether none of these tokens, which stand behind the `(` of an effect, is one
abbrev pub have_no_row : List Token → Bool
have_no_row tokens = all_pass is_no_row (reads opened) tokens
