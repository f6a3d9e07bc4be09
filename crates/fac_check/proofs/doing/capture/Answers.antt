use Rattle.std.proofs.lemmas.List.{drop_more}
use Rattle.fac_abs.proofs.SeenLemmas.{grows_trans}
use Rattle.fac_check.proofs.OpenedItems.{capture_next, capture_stops}
use Rattle.fac_check.proofs.doing.capture.Goals as goal

pub returns-in-None-clause-made : goal.returns-in-None-clause-made
returns-in-None-clause-made c = λ N.
    let i = c.loop-cell.invariant in
    capture_stops N c.args.marks.now c.loop-cell.marks c.args.frame c.loop-cell.made _ c.args.captures.now _ _ i.grows c.requires (drop_more c.args.captures.now c.loop-cell.cell-index 0 c.loop-cell-test.true) (c.in-None.ensures N) (i.same N)

pub loop-cell-preserved : goal.loop-cell-preserved
loop-cell-preserved c =
    let i = c.loop-cell.invariant in
    let bound = c.in_ok-made-in-Some.ensures in
    record {
      grows = grows_trans _ _ _ i.grows bound.grows;
      frame = bound.made.valid;
      same = λ N. capture_next N c.args.marks.now c.loop-cell.marks c.bind.new.self c.args.frame c.loop-cell.made c.in_ok-made-in-Some.made c.in-Some.mark _ c.args.captures.now _ _ i.grows c.requires (drop_more c.args.captures.now c.loop-cell.cell-index 0 c.loop-cell-test.true) (c.in-Some.ensures.1 N) (bound.made.is N) (i.same N);
    }
