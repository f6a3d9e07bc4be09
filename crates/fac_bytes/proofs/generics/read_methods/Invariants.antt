use Rattle.std.proofs.Common.{◌≡◌, ◌-◌, ◌++◌}
use Rattle.fac_spelling.proofs.ReadLoops.{with_front}
use Rattle.fac_bytes.specs.GenericBytes.{methods, numbers_of}
use Rattle.fac_bytes.proofs.generics.read_methods.Given as goal

abbrev pub invariant-loop : goal.invariant-loop
invariant-loop l = record {
  so_far : with_front l.methods ((methods (l.count - l.counter) l.taken).read l.rest) ≡ (methods l.count l.fn.taken).read l.bytes;
  takes : l.taken ≡ l.fn.taken ++ numbers_of l.methods;
}
