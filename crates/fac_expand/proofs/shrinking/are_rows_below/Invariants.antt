use Rattle.std.proofs.Common.{◌≡◌, ◌<◌, ℕ, Some}
use Rattle.std.specs.Prelude.{slice_get}
use Rattle.fac_expand.specs.declared.put_off.PutOff.{PutOff}
use Rattle.fac_expand.specs.inner.Loops.{RowBelow}
use Rattle.fac_expand.proofs.shrinking.are_rows_below.Given as goal

abbrev pub invariant-loop-index : goal.invariant-loop-index
invariant-loop-index l = (k : ℕ) → k < l.index → (r : PutOff) → slice_get l.rows k ≡ Some r → RowBelow l.count r
