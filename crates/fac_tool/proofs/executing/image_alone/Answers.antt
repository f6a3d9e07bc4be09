use Rattle.std.proofs.Common.{List, ℕ, subst}
use Rattle.fac_tool.specs.inner.ImageSteps.{MakesImage}
use Rattle.fac_tool.proofs.executing.image_alone.Goals as goal

pub returns : goal.returns
returns c = subst (λ (bytes : List ℕ). MakesImage bytes c.image_of_bytes.result) c.as_slice.ensures c.image_of_bytes.ensures
