use Rattle.std.proofs.Common.{arith}
use Rattle.std.proofs.lemmas.List.{nil_from_length}
use Rattle.fac_classes.proofs.VisitLemmas.{walk_over}
use Rattle.fac_classes.proofs.visits.explore.Goals as goal

pub returns : goal.returns
returns c = walk_over c.args.classes.now c.loop-visit.walk.done.items c.loop-visit.walk.order.items c.loop-visit.walk.stack.items (nil_from_length c.loop-visit.walk.stack.items (omega (arith, c.in_default.ensures.cases))) c.loop-visit.invariant
