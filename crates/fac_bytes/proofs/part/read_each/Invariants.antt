use Rattle.std.proofs.Common.{◌≡◌, ◌-◌}
use Rattle.fac_spelling.proofs.ReadLoops.{with_front}
use Rattle.fac_bytes.proofs.part.read_each.Given as goal
use Rattle.fac_spelling.specs.Formats.{each}

abbrev pub invariant-loop : goal.invariant-loop
invariant-loop g l = with_front l.values ((each (l.count - l.counter) g.T.Writable.format).read l.rest) ≡ (each l.count g.T.Writable.format).read l.bytes
