-- Which words and elements have their place in an image, as inner functions ask for it.
use Rattle.std.specs.List.{list_all}
use Rattle.std.specs.Prelude.{List, nat_le, Bool, true, false}
use Rattle.fac_base.specs.declared.limits.TheConstants.{MOST_EFFECT_NAMES}
use Rattle.fac_lang.specs.declared.program.Lit.{Lit}
use Rattle.fac_lang.specs.declared.program.Lit.TheVariants.{Quot as l_quot}
use Rattle.fac_lang.specs.declared.program.WordDef.{WordDef}
use Rattle.fac_base.specs.Effects.{effect_height}

-- whether a word's effect has few inputs
abbrev pub has_few_inputs : WordDef → Bool
has_few_inputs d = nat_le (effect_height d.effect).ins MOST_EFFECT_NAMES

-- whether an element of a literal array has an element of an image: each but a quotation that isn't closed
abbrev pub element_is_coded : Lit → Bool
element_is_coded (l_quot t) = false
element_is_coded _ = true

abbrev pub array_is_coded : List Lit → Bool
array_is_coded ls = list_all element_is_coded ls
