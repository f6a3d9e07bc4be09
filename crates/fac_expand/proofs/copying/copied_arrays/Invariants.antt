use Rattle.std.proofs.Common.{◌≡◌, take}
use Rattle.fac_expand.proofs.copying.copied_arrays.Given as goal

abbrev pub invariant-loop-array : goal.invariant-loop-array
invariant-loop-array l = l.copy ≡ take l.array-index l.array-items
