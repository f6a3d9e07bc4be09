-- The image of an accepted program.
use Rattle.std.specs.Prelude.{◌≡◌, ℕ, List, true}
use Rattle.std.specs.declared.option.Option.{Option}
use Rattle.fac_base.specs.declared.height.Height.{Height}
use Rattle.fac_lang.specs.declared.program.Program.{Program}
use Rattle.fac_locals.specs.declared.closing.Closed.{Closed}
use Rattle.fac_check.specs.CallableEffects.{callable_height}
use Rattle.fac_check.specs.TemplateEffects.{AreEffects}
use Rattle.fac_code.specs.declared.image.Image.{Image}
use Rattle.fac_carry.specs.Agrees.{Agrees}
use Rattle.fac_carry.specs.Carries.{Carries}
use Rattle.fac_emit.specs.Heights.{asks_effects}
use Rattle.fac_emit.specs.ProgramCode.{IsPlain}
use Rattle.fac_judge.specs.JudgedPrograms.{StandsFor}

-- the effects of a closed program's templates, where it asks for any
abbrev pub AreEffectsIfAsked : Closed → List (Option Height) → Type 0
AreEffectsIfAsked closed heights = asks_effects closed ≡ true → AreEffects closed heights

-- An image of a closed program: it is plain, and carries each accepted program for which that one stands, with the checker's test of effects.
pub record IsMadeOf (closed : Closed) (M : Image) : Type 0 where
  pub heights : List (Option Height)
  pub plain : IsPlain closed heights M
  pub agrees : (P : Program) (count : ℕ) → StandsFor closed P count → Agrees P (callable_height P) M
  pub carries : (P : Program) (count : ℕ) → StandsFor closed P count → Carries P (callable_height P) count M
