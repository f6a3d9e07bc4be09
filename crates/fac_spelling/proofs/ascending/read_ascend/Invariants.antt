use Rattle.std.proofs.Common.{◌≡◌, ◌+◌, ◌-◌, ◌≤◌, ◌^◌}
use Rattle.fac_spelling.proofs.ReadLoops.{with_front}
use Rattle.fac_spelling.proofs.ascending.read_ascend.Given as goal
use Rattle.fac_spelling.specs.Lists.{ascend}

abbrev pub invariant-loop-index : goal.invariant-loop-index
invariant-loop-index l = record {
  room : l.least + (l.count - l.index) ≤ 2 ^ 32;
  so_far : with_front l.values ((ascend (l.count - l.index) l.least).read l.rest) ≡ (ascend l.count 0).read l.bytes;
}
