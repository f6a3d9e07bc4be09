use Rattle.std.proofs.Common.{◌≡◌, ◌<◌, ℕ, Some, true}
use Rattle.std.specs.Prelude.{slice_get}
use Rattle.fac_code.specs.declared.image.MethodRow.{MethodRow}
use Rattle.fac_expand.proofs.bodies.have_method_flags.Given as goal

abbrev pub invariant-loop-index : goal.invariant-loop-index
invariant-loop-index l = (k : ℕ) → k < l.index → (m : MethodRow) → slice_get l.methods k ≡ Some m → slice_get l.flags m.entry ≡ Some true
