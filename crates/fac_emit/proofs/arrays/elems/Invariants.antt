use Rattle.std.proofs.Common.{◌≡◌, drop, ◌++◌}
use Rattle.fac_emit.specs.ProgramCode.{elems_of}
use Rattle.fac_emit.proofs.arrays.elems.Given as goal

abbrev pub invariant-loop-lit : goal.invariant-loop-lit
invariant-loop-lit l = elems_of l.emission l.lits ≡ l.elems ++ elems_of l.emission (drop l.lit-index l.lits)
