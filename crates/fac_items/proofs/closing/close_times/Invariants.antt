use Rattle.std.proofs.Common.{◌≡◌, ◌-◌}
use Rattle.fac_items.specs.inner.TakenBits.{closed_times}
use Rattle.fac_items.proofs.closing.close_times.Given as goal

abbrev pub invariant-loop-pair : goal.invariant-loop-pair
invariant-loop-pair l = closed_times l.scope l.times l.initial.nest ≡ closed_times l.scope (l.times - l._pair) l.nest
