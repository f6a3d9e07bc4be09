use Rattle.std.proofs.Common.{◌≡◌, ◌<◌, ◌≤◌, ℕ, Some, true}
use Rattle.std.specs.Prelude.{slice_get}
use Rattle.fac_code.specs.declared.image.Instr.{Instr}
use Rattle.fac_expand.specs.inner.Bodies.{is_direct_between}
use Rattle.fac_expand.proofs.bodies.are_direct_between.Given as goal

abbrev pub invariant-loop-at : goal.invariant-loop-at
invariant-loop-at l = (pc : ℕ) → pc < l.at → l.first ≤ pc → (i : Instr) → slice_get l.code pc ≡ Some i → is_direct_between l.uses l.first l.second i ≡ true
