use Rattle.std.proofs.Common.{◌≡◌, drop, take, map, true}
use Rattle.fac_graph.specs.inner.Climbing.{all_known}
use Rattle.fac_graph.specs.declared.slots.SlotCount.TheVariants.{Known}
use Rattle.fac_graph.proofs.slots.counts_of.Given as goal

abbrev pub invariant-loop-standing : goal.invariant-loop-standing
invariant-loop-standing l =
    record {
      so_far : take l.standing-index l.standings ≡ map Known l.counts;
      left : all_known (drop l.standing-index l.standings) ≡ true;
    }
