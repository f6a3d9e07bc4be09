use Rattle.std.proofs.Common.{◌≡◌, drop}
use Rattle.fac_spelling.specs.Bytes.{fixed}
use Rattle.fac_spelling.specs.inner.CharacterSteps.{rest_of}
use Rattle.fac_spelling.proofs.bytes.read_fixed.Given as goal

abbrev pub invariant-loop-byte : goal.invariant-loop-byte
invariant-loop-byte l = rest_of ((fixed (drop l.byte-index l.expected)).read l.rest) ≡ rest_of ((fixed l.expected).read l.bytes)
