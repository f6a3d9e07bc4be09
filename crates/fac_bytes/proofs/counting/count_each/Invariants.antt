use Rattle.std.proofs.Common.{◌+◌, length}
use Rattle.fac_spelling.specs.Formats.{each}
use Rattle.fac_bytes.proofs.Counted.{CountsUp}
use Rattle.fac_bytes.proofs.counting.count_each.Given as goal

abbrev pub invariant-loop-part : goal.invariant-loop-part
invariant-loop-part g l = CountsUp g.T.Writable.format l.parts l.part-index l.count (l.fn.count + length ((each (length l.parts) g.T.Writable.format).spell l.parts))
