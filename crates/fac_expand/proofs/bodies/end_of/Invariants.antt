use Rattle.std.proofs.Common.{◌≡◌, ◌<◌, ℕ, Some, true}
use Rattle.std.specs.Prelude.{slice_get}
use Rattle.fac_expand.proofs.bodies.end_of.Given as goal

abbrev pub invariant-loop-at : goal.invariant-loop-at
invariant-loop-at l = (b : ℕ) → l.place < b → b < l.at → slice_get l.flags b ≡ Some true → ⊥
