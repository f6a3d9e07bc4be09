use Rattle.std.proofs.Common.{refl, true, length-set, arith}
use Rattle.std.specs.Prelude.{slice_set}
use Rattle.fac_classes.specs.declared.visits.Visit.TheVariants.{Leave}
use Rattle.fac_classes.proofs.VisitLemmas.{visit_low, left_now}
use Rattle.fac_classes.proofs.visits.leave.Goals as goal

pub index_mut-requires : goal.index_mut-requires
index_mut-requires c =
    let low = visit_low c.args.classes.now c.args.walk.now.done.items c.args.walk.now.order.items c.args.walk.now.stack.items (Leave c.args.class) c.requires.walk in
    omega (arith, low)

pub returns : goal.returns
returns c =
    left_now c.args.classes.now c.requires.sound c.args.walk.now.done.items (slice_set c.args.walk.now.done.items c.args.class true) c.args.walk.now.order.items c.push.new.self.items c.args.walk.now.stack.items c.args.class c.requires.walk refl
    (length-set c.args.walk.now.done.items c.args.class true) c.in_ok-push.ensures.items
