-- Code that tests a callable.
use Rattle.std.specs.Prelude.{◌≡◌, ℕ, Bool, Some, slice_get}
use Rattle.fac_base.specs.declared.height.Height.{Height}
use Rattle.fac_code.specs.declared.image.Image.{Image}
use Rattle.fac_code.specs.declared.image.Instr.TheVariants.{CallEffect}

-- an instruction of an image's code tests a callable
pub record TestsCallables (M : Image) : Type 0 where
  pub place : ℕ
  pub height : Height
  pub tail : Bool
  pub there : slice_get M.code place ≡ Some (CallEffect height tail)
