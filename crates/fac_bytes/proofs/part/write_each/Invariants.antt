use Rattle.std.proofs.Common.{◌++◌, length}
use Rattle.fac_spelling.proofs.WriteLoops.{Completes}
use Rattle.fac_bytes.proofs.part.write_each.Given as goal
use Rattle.fac_spelling.specs.Formats.{each}

abbrev pub invariant-loop-value : goal.invariant-loop-value
invariant-loop-value g l = Completes g.T.Writable.format l.values l.value-index l.out (l.fn.out ++ (each (length l.values) g.T.Writable.format).spell l.values)
