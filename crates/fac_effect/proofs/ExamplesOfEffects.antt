-- Effects, computed.
use Rattle.std.specs.Prelude.{◌≡◌, ℕ, List, [], ◌∷◌, ◌++◌, Some, None, codes}
use Rattle.std.proofs.Common.{refl, replicate}
use Rattle.fac_source.specs.declared.token.Token.{Token}
use Rattle.fac_base.specs.Signatures.{signature, no_inputs, value, quoted, never, leaves}
use Rattle.fac_effect.specs.declared.effect_reader.Side.TheVariants.{Inputs as Ins}
use Rattle.fac_effect.specs.declared.effect_reader.Spot.TheVariants.{First, Behind}
use Rattle.fac_effect.specs.declared.effect_reader.EffectWhy.TheVariants.{RowPlace, TooWide, Form}
use Rattle.fac_source.specs.FormRows.{kind_begun}
use Rattle.fac_effect.specs.Spellings.{plain_token, spelling_of, has_integer_form, word_spelling, sign_spelling, reserved_spelling}
use Rattle.fac_effect.specs.EffectReading.{reads, whole, refused, after}
use Rattle.fac_effect.specs.SaidEffects.{effect_of}

abbrev pub w : List ℕ → Token
w text = plain_token (record { file = 1; token = 1 }) text

abbrev opens : Token
opens = w (codes "(")

abbrev dashes : Token
dashes = w (codes "--")

abbrev closes : Token
closes = w (codes ")")

-- ( ..a pred: ( ..a -- ..b ? ) body: ( ..b -- ..a ) -- ..b )
abbrev while_tokens : List Token
while_tokens =
    opens ∷ w (codes "..a") ∷ w (codes "pred:") ∷ opens ∷ w (codes "..a") ∷ dashes ∷ w (codes "..b") ∷ w (codes "?") ∷ closes ∷ w (codes "body:") ∷ opens ∷ w (codes "..b") ∷ dashes ∷ w (codes "..a") ∷ closes ∷
    dashes ∷ w (codes "..b") ∷ closes ∷ []

while_is_whole : after while_tokens ≡ whole
unfolding spelling_of has_integer_form word_spelling sign_spelling kind_begun reserved_spelling
while_is_whole = refl

while_says :
    effect_of while_tokens ≡
    signature (Some (codes "..a")) (
    quoted (codes "pred") (signature (Some (codes "..a")) no_inputs (leaves (Some (codes "..b")) (codes "?" ∷ []))) (
    quoted (codes "body") (signature (Some (codes "..b")) no_inputs (leaves (Some (codes "..a")) [])) no_inputs)) (leaves (Some (codes "..b")) [])
unfolding spelling_of has_integer_form word_spelling sign_spelling kind_begun reserved_spelling
while_says = refl

-- behind the second `(` a side begins, in the effect of an input
while_begun : after (opens ∷ w (codes "..a") ∷ w (codes "pred:") ∷ opens ∷ []) ≡ reads (record { side = Ins; spot = First; outer = Ins ∷ []; names = 2 })
unfolding spelling_of has_integer_form word_spelling sign_spelling kind_begun reserved_spelling
while_begun = refl

-- A class is documentation, and so is an effect behind an output.
documented : effect_of (opens ∷ w (codes "x:") ∷ w (codes "integer") ∷ dashes ∷ w (codes "q:") ∷ opens ∷ w (codes "a") ∷ dashes ∷ closes ∷ closes ∷ []) ≡ signature None (value (codes "x") no_inputs) (leaves None (codes "q" ∷ []))
unfolding spelling_of has_integer_form word_spelling sign_spelling kind_begun reserved_spelling
documented = refl

-- A row variable may be documented. A name of a class with two dots is none.
row_documented : effect_of (opens ∷ w (codes "..q:") ∷ opens ∷ dashes ∷ closes ∷ w (codes "x:") ∷ w (codes "..a") ∷ dashes ∷ closes ∷ []) ≡ signature (Some (codes "..q")) (value (codes "x") no_inputs) (leaves None [])
unfolding spelling_of has_integer_form word_spelling sign_spelling kind_begun reserved_spelling
row_documented = refl

-- `*` alone never returns. Beside a row variable or another name it is a name, and so it is with documentation.
star_alone : effect_of (opens ∷ dashes ∷ w (codes "*") ∷ closes ∷ []) ≡ signature None no_inputs never
unfolding spelling_of has_integer_form word_spelling sign_spelling kind_begun reserved_spelling
star_alone = refl

star_beside_row : effect_of (opens ∷ dashes ∷ w (codes "..a") ∷ w (codes "*") ∷ closes ∷ []) ≡ signature None no_inputs (leaves (Some (codes "..a")) (codes "*" ∷ []))
unfolding spelling_of has_integer_form word_spelling sign_spelling kind_begun reserved_spelling
star_beside_row = refl

star_documented : effect_of (opens ∷ dashes ∷ w (codes "*:") ∷ w (codes "x") ∷ closes ∷ []) ≡ signature None no_inputs (leaves None (codes "*" ∷ []))
unfolding spelling_of has_integer_form word_spelling sign_spelling kind_begun reserved_spelling
star_documented = refl

-- What is refused.
row_second : after (opens ∷ w (codes "x") ∷ w (codes "..a") ∷ []) ≡ refused RowPlace
unfolding spelling_of has_integer_form word_spelling sign_spelling kind_begun reserved_spelling
row_second = refl

row_second_after_effect : after (opens ∷ w (codes "q:") ∷ opens ∷ dashes ∷ closes ∷ w (codes "..a") ∷ []) ≡ refused RowPlace
unfolding spelling_of has_integer_form word_spelling sign_spelling kind_begun reserved_spelling
row_second_after_effect = refl

colon_twice : after (opens ∷ w (codes "x:") ∷ w (codes "y:") ∷ []) ≡ refused Form
unfolding spelling_of has_integer_form word_spelling sign_spelling kind_begun reserved_spelling
colon_twice = refl

no_dashes : after (opens ∷ w (codes "x") ∷ closes ∷ []) ≡ refused Form
unfolding spelling_of has_integer_form word_spelling sign_spelling kind_begun reserved_spelling
no_dashes = refl

more_behind : after (opens ∷ dashes ∷ closes ∷ closes ∷ []) ≡ refused Form
unfolding spelling_of has_integer_form word_spelling sign_spelling kind_begun reserved_spelling
more_behind = refl

-- 64 names are read, and no 65th. Where the 64th ends in a colon, only an effect without names may describe it.
names_64 : after (opens ∷ replicate 64 (w (codes "x"))) ≡ reads (record { side = Ins; spot = Behind; outer = []; names = 64 })
unfolding spelling_of has_integer_form word_spelling sign_spelling kind_begun reserved_spelling
names_64 = refl

names_65 : after (opens ∷ replicate 65 (w (codes "x"))) ≡ refused TooWide
unfolding spelling_of has_integer_form word_spelling sign_spelling kind_begun reserved_spelling
names_65 = refl

row_65 : after (opens ∷ replicate 64 (w (codes "x")) ++ w (codes "..a") ∷ []) ≡ refused RowPlace
unfolding spelling_of has_integer_form word_spelling sign_spelling kind_begun reserved_spelling
row_65 = refl

class_65 : after (opens ∷ replicate 63 (w (codes "x")) ++ w (codes "y:") ∷ w (codes "x") ∷ []) ≡ refused TooWide
unfolding spelling_of has_integer_form word_spelling sign_spelling kind_begun reserved_spelling
class_65 = refl

effect_at_64 : after (opens ∷ replicate 63 (w (codes "x")) ++ w (codes "y:") ∷ opens ∷ dashes ∷ closes ∷ dashes ∷ closes ∷ []) ≡ whole
unfolding spelling_of has_integer_form word_spelling sign_spelling kind_begun reserved_spelling
effect_at_64 = refl
