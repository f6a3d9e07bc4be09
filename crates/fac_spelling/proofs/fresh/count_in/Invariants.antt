use Rattle.std.proofs.Common.{◌≡◌, ◌+◌, ◌≤◌, drop}
use Rattle.fac_spelling.specs.inner.TakenBehind.{count_in}
use Rattle.fac_spelling.proofs.fresh.count_in.Given as goal

abbrev pub invariant-loop-number : goal.invariant-loop-number
invariant-loop-number l = record {
  so_far : l.count + count_in l.low l.«end» (drop l.number-index l.numbers) ≡ count_in l.low l.«end» l.numbers;
  few : l.count ≤ l.number-index;
}
