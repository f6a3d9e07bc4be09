use Rattle.std.proofs.Common.{◌≡◌, ◌<◌, ℕ, Some}
use Rattle.std.specs.Prelude.{slice_get}
use Rattle.fac_code.specs.declared.image.GenericRow.{GenericRow}
use Rattle.fac_expand.specs.inner.Bodies.{HaveMethodFlags}
use Rattle.fac_expand.proofs.bodies.have_generic_flags.Given as goal

abbrev pub invariant-loop-index : goal.invariant-loop-index
invariant-loop-index l = (k : ℕ) → k < l.index → (r : GenericRow) → slice_get l.generics k ≡ Some r → HaveMethodFlags l.flags r.methods
