-- How many values a word promises to take and leave.
use Rattle.std.specs.Prelude.{true, false, Option, Some, None}
use Rattle.fac_base.specs.declared.height.Height.{Height}
use Rattle.fac_base.specs.Effects.{effect_height}
use Rattle.fac_lang.specs.declared.program.WordDef.{WordDef}
use Rattle.fac_lang.specs.declared.program.Sort.TheVariants.{Core as core}

-- Inline words and core words promise none.
abbrev pub word_height : WordDef → Option Height
word_height d = elim d.inline [ true ↦ None | false ↦ elim d.sort [ core k ↦ None | _ ↦ Some (effect_height d.effect) ] ]
