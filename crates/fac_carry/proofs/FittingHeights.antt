-- When a callable of an effect fits a tested one, as the machine and as the meaning ask.
use Rattle.std.proofs.Common.{◌≡◌, false, Option, Some, None, refl}
use Rattle.fac_base.specs.declared.height.Height.{Height}
use Rattle.fac_base.specs.HeightArithmetic.{fits}
use Rattle.fac_machine.specs.Machine.{fits_in}

-- one effect, where it is there
pub fits_so : (h : Height) (o : Option Height) → fits_in h o ≡ elim o [ Some k ↦ fits k h | None ↦ false ]
fits_so h None = refl
fits_so h (Some k) = refl
