use Rattle.std.proofs.Common.{◌≡◌, drop, take, map, true}
use Rattle.fac_graph.specs.inner.Components.{all_finished}
use Rattle.fac_graph.specs.declared.components.VisitState.TheVariants.{Done}
use Rattle.fac_graph.proofs.components.flags_of.Given as goal

abbrev pub invariant-loop-standing : goal.invariant-loop-standing
invariant-loop-standing l =
    record {
      so_far : take l.standing-index l.standings ≡ map Done l.flags;
      left : all_finished (drop l.standing-index l.standings) ≡ true;
    }
