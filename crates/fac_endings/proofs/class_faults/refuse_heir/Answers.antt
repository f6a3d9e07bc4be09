use Rattle.fac_endings.proofs.FaultLemmas.{both_true, heir_behind}
use Rattle.fac_endings.proofs.class_faults.refuse_heir.Goals as goal

pub returns-then-are_behind : goal.returns-then-are_behind
returns-then-are_behind c =
    heir_behind c.args.table.drafts.now c.args.table.classes.now c.args.class c.args.parent.now c.args.slots.now c.args.first.now (both_true _ _ c.if-is_behind.ensures c.if-are_behind.ensures)
