-- That code in which quotations are run in place has direct code for each direct phrase of its program.
use Rattle.std.specs.Prelude.{◌≡◌, ℕ, List, Bool, true, false, Option, Some, slice_get}
use Rattle.fac_lang.specs.declared.program.Program.{Program}
use Rattle.fac_lang.specs.declared.program.WordDef.{WordDef}
use Rattle.fac_code.specs.declared.image.Image.{Image}
use Rattle.fac_carry.specs.Stands.{PlainCode}
use Rattle.fac_carry.specs.Direct.{IsLoop, IsWhile, DirectIsInPlace}
use Rattle.fac_expand.specs.declared.plan.Use.{Use}
use Rattle.fac_expand.specs.declared.plan.Use.TheVariants.{Called, Loop, While, Until}

-- whether a use is that of a word that goes on with one quotation, or with two
abbrev pub takes_one : Option Use → Bool
takes_one (Some Loop) = true
takes_one _ = false

abbrev pub takes_two : Option Use → Bool
takes_two (Some While) = true
takes_two (Some Until) = true
takes_two _ = false

-- A use of a word becomes a call exactly where the word isn't inline, and that of `loop`, `while` and `until` is named.
pub record UsesAre (P : Program) (uses : List Use) : Type 0 where
  pub called : (w : ℕ) (d : WordDef) → slice_get P.words w ≡ Some d → d.inline ≡ false → slice_get uses w ≡ Some Called
  pub not_inline : (w : ℕ) (d : WordDef) → slice_get P.words w ≡ Some d → slice_get uses w ≡ Some Called → d.inline ≡ false
  pub loops : (w : ℕ) → IsLoop P w → takes_one (slice_get uses w) ≡ true
  pub whiles : (w : ℕ) → IsWhile P w → takes_two (slice_get uses w) ≡ true

-- For each program with this top-level phrase for whose phrases the plain code of N stands, and with whose words these uses agree: the code of M of each
-- direct phrase is in place.
abbrev pub KeepsDirect : ℕ → Image → List Use → Image → Type 0
KeepsDirect top N uses M = (P : Program) → P.top ≡ top → PlainCode P N → UsesAre P uses → DirectIsInPlace P M
