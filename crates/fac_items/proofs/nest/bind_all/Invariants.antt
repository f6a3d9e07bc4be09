use Rattle.std.proofs.Common.{◌≡◌, ◌≤◌, [], length, map, take}
use Rattle.fac_items.specs.inner.Behind.{name_tok}
use Rattle.fac_items.specs.inner.TakenBits.{all_bound}
use Rattle.fac_items.proofs.nest.bind_all.Given as goal

abbrev pub invariant-loop-count : goal.invariant-loop-count
invariant-loop-count l = record {
  within : l.count ≤ length l.names;
  bound : all_bound (map name_tok l.names) [] l.initial.nest ≡ all_bound (map name_tok (take l.count l.names)) [] l.nest;
}

abbrev pub decreases-loop-count : goal.decreases-loop-count
decreases-loop-count l = l.count
