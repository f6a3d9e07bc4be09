-- The effects by which words are tested, as inner functions find them.
use Rattle.std.specs.Prelude.{Bool, true, false, Option, Some, None}
use Rattle.fac_base.specs.declared.height.Height.{Height}
use Rattle.fac_lang.specs.declared.program.WordDef.{WordDef}
use Rattle.fac_lang.specs.declared.program.Sort.{Sort}
use Rattle.fac_lang.specs.declared.program.Sort.TheVariants.{Core as core, Past as past}
use Rattle.fac_base.specs.Signatures.{Signature}
use Rattle.fac_base.specs.Effects.{effect_height}

-- what a word declares by its effect, where it isn't inline
abbrev pub declared_height : Bool → Signature → Option Height
declared_height true e = None
declared_height false e = Some (effect_height e)

-- what a word of this sort promises that declares this
abbrev pub promised_height : Sort → Option Height → Option Height
promised_height (core k) h = None
promised_height (past t) h = None
promised_height _ h = h

-- and what a word is tested by that is the top-level phrase, or that isn't
abbrev pub height_where : Bool → WordDef → Option Height
height_where true d = None
height_where false d = promised_height d.sort (declared_height d.inline d.effect)
