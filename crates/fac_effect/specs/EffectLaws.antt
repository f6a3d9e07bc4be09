-- Laws of reading effects. Each is the contract of a function that does nothing.
use Rattle.std.specs.Prelude.{◌≡◌, List, ◌++◌, true}
use Rattle.fac_base.specs.declared.place.Place.{Place}
use Rattle.fac_source.specs.declared.token.Token.{Token}
use Rattle.fac_base.specs.Signatures.{Signature}
use Rattle.fac_effect.specs.declared.effect_reader.EffectReader.{EffectReader}
use Rattle.fac_effect.specs.declared.effect_reader.EffectWhy.{EffectWhy}
use Rattle.fac_effect.specs.WrittenEffects.{IsEffect, BeginsEffect, IsUnfinished}
use Rattle.fac_effect.specs.EffectReading.{reads, whole, refused, after}
use Rattle.fac_effect.specs.SaidEffects.{effect_of}
use Rattle.fac_effect.specs.LocalNames.{takes_locals, name_locals}
use Rattle.fac_effect.specs.RowlessEffects.{opened_tokens, IsRowless, IsUnfinishedRowless, behind_opens, have_no_row}

-- Tokens are whole exactly where they are those of an effect, and then they say one thing.
abbrev pub WholeIsEffect : Type 0
WholeIsEffect = (tokens : List Token) → after tokens ≡ whole → IsEffect tokens (effect_of tokens)

abbrev pub EffectIsWhole : Type 0
EffectIsWhole = (tokens : List Token) (effect : Signature) → IsEffect tokens effect → (after tokens ≡ whole) × (effect_of tokens ≡ effect)

-- No effect's tokens begin those of another.
abbrev pub EffectsEnd : Type 0
EffectsEnd = (xs ys r s : List Token) (e g : Signature) → IsEffect xs e → IsEffect ys g → xs ++ r ≡ ys ++ s → (xs ≡ ys) × (e ≡ g)

-- Tokens that are read and not whole go on to an effect.
abbrev pub ReadGoesOn : Type 0
ReadGoesOn = (tokens : List Token) (r : EffectReader) → after tokens ≡ reads r → IsUnfinished tokens

-- No effect begins with tokens that are refused.
abbrev pub RefusedIsNone : Type 0
RefusedIsNone = (tokens : List Token) (why : EffectWhy) → after tokens ≡ refused why → BeginsEffect tokens → ⊥

-- The tokens of an effect show whether its inputs may be locals.
abbrev pub InputsAreNamed : Type 0
InputsAreNamed = (tokens : List Token) (effect : Signature) → IsEffect tokens effect → name_locals tokens ≡ takes_locals effect

-- Tokens whose inputs may be locals go on to an effect whose inputs may.
abbrev pub LocalsGoOn : Type 0
LocalsGoOn = (tokens : List Token) (r : EffectReader) → after tokens ≡ reads r → name_locals tokens ≡ true → (u : IsUnfinished tokens) × (takes_locals u.effect ≡ true)

-- Tokens behind a `(` are whole and have no row variable exactly where they are those of an effect without row variables.
abbrev pub WholeIsRowless : Type 0
WholeIsRowless = (opens : Place) (tokens : List Token) → behind_opens tokens ≡ whole → have_no_row tokens ≡ true → IsRowless opens tokens (effect_of (opened_tokens opens tokens))

abbrev pub RowlessIsWhole : Type 0
RowlessIsWhole =
    (opens : Place) (tokens : List Token) (effect : Signature) → IsRowless opens tokens effect →
    (behind_opens tokens ≡ whole) × (have_no_row tokens ≡ true) × (effect_of (opened_tokens opens tokens) ≡ effect)

-- Tokens behind a `(` that are read, are not whole and have no row variable go on to an effect without row variables.
abbrev pub RowlessGoesOn : Type 0
RowlessGoesOn = (opens : Place) (tokens : List Token) (r : EffectReader) → behind_opens tokens ≡ reads r → have_no_row tokens ≡ true → IsUnfinishedRowless opens tokens
