use Rattle.std.proofs.Common.{◌≡◌, ◌+◌, drop, fold}
use Rattle.fac_source.specs.Refusals.{sooner}
use Rattle.fac_endings.specs.LastRefusals.{class_faults}
use Rattle.fac_endings.proofs.class_faults.refuse_classes.Given as goal

abbrev pub invariant-loop-class : goal.invariant-loop-class
invariant-loop-class l =
    record {
      first : fold sooner l.initial.first (class_faults l.table.drafts.now l.table.classes.now l.old l.new) ≡ fold sooner l.first (class_faults l.table.drafts.now l.table.classes.now l.number (drop l.class-index l.new));
      number : l.number ≡ l.old + l.class-index;
    }
