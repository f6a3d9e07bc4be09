use Rattle.fac_check.proofs.OpenedItems.{local_does, no_local}
use Rattle.fac_check.proofs.WordItems.{ok_maps}
use Rattle.fac_check.proofs.doing.local.Goals as goal

pub returns-in-Some-clause-does : goal.returns-in-Some-clause-does
returns-in-Some-clause-does c =
    ok_maps c.put.result (λ r puts. λ subject alone b O at here i stands opens. local_does O c.args.marks.now c.put.new.marks b c.args.stack c.args.frame c.args.cell r c.in-Some.mark (c.in-Some.ensures.1 O.naming) puts at here i opens) c.put.ensures.does

pub returns-in-None-clause-does : goal.returns-in-None-clause-does
returns-in-None-clause-does c = λ subject alone b O at here i stands opens. absurd (no_local O c.args.marks.now c.args.frame c.args.cell (c.in-None.ensures O.naming) at i opens)
