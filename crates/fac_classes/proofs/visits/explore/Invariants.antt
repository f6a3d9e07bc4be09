use Rattle.fac_classes.specs.inner.Visits.{Walks, left_weight}
use Rattle.fac_classes.proofs.visits.explore.Given as goal

abbrev pub invariant-loop-visit : goal.invariant-loop-visit
invariant-loop-visit l = Walks l.classes l.walk.done.items l.walk.order.items l.walk.stack.items

abbrev pub decreases-loop-visit : goal.decreases-loop-visit
decreases-loop-visit l = left_weight l.classes l.walk.stack.items
