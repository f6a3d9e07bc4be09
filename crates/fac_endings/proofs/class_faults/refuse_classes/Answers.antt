use Rattle.std.proofs.Common.{arith}
use Rattle.fac_endings.specs.LastRefusals.{class_faults}
use Rattle.fac_endings.proofs.FaultLemmas.{class_more}
use Rattle.fac_endings.proofs.class_faults.refuse_classes.Goals as goal

pub loop-class-preserved : goal.loop-class-preserved
loop-class-preserved c =
    let inv = c.loop-class.invariant in
    record {
      first = class_more c.args.table.drafts.now c.args.table.classes.now c.args.new.now c.loop-class.class-index c.loop-class.number c.class-item.result c.is_cycle-is_cycle.result c.args.first.now c.loop-class.first c.refuse_class.new.first
          (class_faults c.args.table.drafts.now c.args.table.classes.now c.args.old c.args.new.now) c.loop-class-test.true c.class-item.is
          c.is_cycle-is_cycle.ensures inv.first c.in_ok-refuse_class.ensures;
      number = let number = inv.number in omega (arith, number);
    }
