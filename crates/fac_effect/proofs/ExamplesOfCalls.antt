-- Effects that calls declare, computed.
use Rattle.std.specs.Prelude.{◌≡◌, ℕ, List, [], ◌∷◌, map, Bool, true, false, codes}
use Rattle.std.proofs.Common.{refl, replicate}
use Rattle.fac_source.specs.declared.tree.Callee.TheVariants.{Callable, Word}
use Rattle.fac_effect.specs.declared.effect_reader.EffectWhy.TheVariants.{TooWide}
use Rattle.fac_effect.specs.declared.spelling.Spelling.TheVariants as spelled
use Rattle.fac_source.specs.FormRows.{kind_begun}
use Rattle.fac_effect.specs.Spellings.{wrap_text, spelling_of, has_integer_form, word_spelling, sign_spelling, reserved_spelling}
use Rattle.fac_effect.specs.EffectReading.{whole, refused}
use Rattle.fac_effect.specs.RowlessEffects.{behind_opens, have_no_row}
use Rattle.fac_effect.proofs.ExamplesOfEffects.{w}

wrap_is_sign : spelling_of wrap_text ≡ spelled.Wraps
unfolding spelling_of has_integer_form word_spelling sign_spelling kind_begun reserved_spelling
wrap_is_sign = refl

call_is_sign : spelling_of (codes "call(") ≡ spelled.EffectCall Callable
unfolding spelling_of has_integer_form word_spelling sign_spelling kind_begun reserved_spelling
call_is_sign = refl

execute_is_sign : spelling_of (codes "execute(") ≡ spelled.EffectCall Word
unfolding spelling_of has_integer_form word_spelling sign_spelling kind_begun reserved_spelling
execute_is_sign = refl

-- whether there is no row variable among tokens with these texts
abbrev without_row : List (List ℕ) → Bool
without_row texts = have_no_row (map w texts)

-- call( x q: ( x -- ) -- x )
call_is_whole : behind_opens (map w (codes "x" ∷ codes "q:" ∷ codes "(" ∷ codes "x" ∷ codes "--" ∷ codes ")" ∷ codes "--" ∷ codes "x" ∷ codes ")" ∷ [])) ≡ whole
unfolding spelling_of has_integer_form word_spelling sign_spelling kind_begun reserved_spelling
call_is_whole = refl

-- Row variables are told on each side and at each depth, also where they are documented.
row_first : without_row (codes "..a" ∷ []) ≡ false
unfolding spelling_of has_integer_form word_spelling sign_spelling kind_begun reserved_spelling
row_first = refl

row_left : without_row (codes "x" ∷ codes "--" ∷ codes "..a" ∷ []) ≡ false
unfolding spelling_of has_integer_form word_spelling sign_spelling kind_begun reserved_spelling
row_left = refl

row_nested : without_row (codes "--" ∷ codes "q:" ∷ codes "(" ∷ codes "..a:" ∷ codes "x" ∷ []) ≡ false
unfolding spelling_of has_integer_form word_spelling sign_spelling kind_begun reserved_spelling
row_nested = refl

-- A name of a class with two dots is none.
class_with_dots : without_row (codes "x:" ∷ codes "..a" ∷ codes "--" ∷ codes ")" ∷ []) ≡ true
unfolding spelling_of has_integer_form word_spelling sign_spelling kind_begun reserved_spelling
class_with_dots = refl

names_65 : behind_opens (replicate 65 (w (codes "x"))) ≡ refused TooWide
unfolding spelling_of has_integer_form word_spelling sign_spelling kind_begun reserved_spelling
names_65 = refl
