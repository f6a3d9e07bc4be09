-- The effect of the word that is checked.
use Rattle.std.specs.Prelude.{ℕ, Option, Some, None, slice_get}
use Rattle.fac_lang.specs.declared.program.Program.{Program}
use Rattle.fac_lang.specs.declared.program.WordDef.{WordDef}
use Rattle.fac_base.specs.Signatures.{Signature}

-- the effect of a word, where there is one
abbrev pub effect_where : Option WordDef → Option Signature
effect_where None = None
effect_where (Some d) = Some d.effect

-- the effect of the word with this number, where a row word is checked
abbrev pub own_effect : Program → Option ℕ → Option Signature
own_effect C None = None
own_effect C (Some w) = effect_where (slice_get C.words w)
