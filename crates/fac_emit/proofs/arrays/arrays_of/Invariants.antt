use Rattle.std.proofs.Common.{◌≡◌, drop, ◌++◌, map}
use Rattle.fac_emit.specs.ProgramCode.{elems_of, program_arrays}
use Rattle.fac_emit.proofs.arrays.arrays_of.Given as goal

abbrev pub invariant-loop-lits : goal.invariant-loop-lits
invariant-loop-lits l = program_arrays l.emission ≡ l.arrays ++ map (elems_of l.emission) (drop l.lits-index l.emission.program.arrays)
