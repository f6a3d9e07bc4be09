use Rattle.std.proofs.Common.{◌≡◌, ◌<◌, ℕ, Some}
use Rattle.std.specs.Prelude.{slice_get}
use Rattle.fac_code.specs.declared.image.WordRow.{WordRow}
use Rattle.fac_expand.specs.inner.Bodies.{HasActionFlag}
use Rattle.fac_expand.proofs.bodies.have_word_flags.Given as goal

abbrev pub invariant-loop-index : goal.invariant-loop-index
invariant-loop-index l = (k : ℕ) → k < l.index → (r : WordRow) → slice_get l.words k ≡ Some r → HasActionFlag l.flags r.action
