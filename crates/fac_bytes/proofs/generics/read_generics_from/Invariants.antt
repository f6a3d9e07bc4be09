use Rattle.std.proofs.Common.{◌≡◌, ◌-◌, []}
use Rattle.fac_spelling.proofs.ReadLoops.{with_front}
use Rattle.fac_bytes.specs.GenericBytes.{generics_from}
use Rattle.fac_bytes.proofs.generics.read_generics_from.Given as goal

abbrev pub invariant-loop : goal.invariant-loop
invariant-loop l = with_front l.rows ((generics_from (l.count - l.counter) l.taken).read l.rest) ≡ (generics_from l.count []).read l.bytes
