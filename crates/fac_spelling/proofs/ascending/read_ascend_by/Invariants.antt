use Rattle.std.proofs.Common.{◌≡◌, ◌+◌, ◌-◌, ◌≤◌, ◌^◌}
use Rattle.fac_spelling.proofs.ReadLoops.{with_front}
use Rattle.fac_spelling.proofs.ascending.read_ascend_by.Given as goal
use Rattle.fac_spelling.specs.Lists.{ascend_by}

abbrev pub invariant-loop-index : goal.invariant-loop-index
invariant-loop-index g l = record {
  room : l.least + (l.count - l.index) ≤ 2 ^ 32;
  so_far : with_front l.entries ((ascend_by g.T.Spelled.format (l.count - l.index) l.least).read l.rest) ≡ (ascend_by g.T.Spelled.format l.count 0).read l.bytes;
}
