use Rattle.std.proofs.Common.{◌≡◌, ◌-◌, ◌++◌, drop, length}
use Rattle.fac_expand.specs.inner.Pieces.{to_end}
use Rattle.fac_expand.proofs.placing.copied.Given as goal

abbrev pub invariant-loop-instr : goal.invariant-loop-instr
invariant-loop-instr l = to_end (drop l.start l.plain.code) ≡ l.code ++ to_end (drop l.at l.plain.code)

abbrev pub decreases-loop-instr : goal.decreases-loop-instr
decreases-loop-instr l = length l.plain.code - l.at
