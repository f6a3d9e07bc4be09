use Rattle.std.proofs.Common.{◌≡◌, ◌≤◌, length, take}
use Rattle.fac_items.specs.Items.{local_of}
use Rattle.fac_items.specs.inner.TakenBits.{locals_seen}
use Rattle.fac_items.proofs.locals.local_of.Given as goal

abbrev pub invariant-loop-count : goal.invariant-loop-count
invariant-loop-count l = record {
  within : l.count ≤ length l.locals;
  found : local_of (locals_seen l.locals) l.name ≡ local_of (locals_seen (take l.count l.locals)) l.name;
}

abbrev pub decreases-loop-count : goal.decreases-loop-count
decreases-loop-count l = l.count
