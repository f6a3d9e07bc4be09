use Rattle.std.proofs.Common.{◌≡◌, ◌<◌, ◌+◌, ℕ, Some, true}
use Rattle.std.specs.Prelude.{slice_get}
use Rattle.fac_code.specs.declared.image.Instr.{Instr}
use Rattle.fac_code.specs.declared.image.Instr.TheVariants.{Ret}
use Rattle.fac_carry.specs.Direct.{ComesTo, leaves_entry}
use Rattle.fac_expand.proofs.tails.are_needed.Given as goal

abbrev pub invariant-loop-at : goal.invariant-loop-at
invariant-loop-at l = (pc : ℕ) → pc < l.at → (i : Instr) → slice_get l.image.code pc ≡ Some i → leaves_entry l.image i ≡ true → (b : ℕ) → ComesTo l.image Ret (pc + 1) b → ⊥
