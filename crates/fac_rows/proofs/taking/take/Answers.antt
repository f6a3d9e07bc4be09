use Rattle.std.proofs.Common.{◌∙◌}
use Rattle.fac_abs.proofs.SeenLemmas.{grows_trans}
use Rattle.fac_rows.proofs.TakingLemmas.{popped_empty, take_step}
use Rattle.fac_rows.proofs.taking.take.Goals as goal

pub returns-in-None-clause-taken : goal.returns-in-None-clause-taken
returns-in-None-clause-taken c = λ N. c.loop-left.invariant.3 N ∙ popped_empty c.loop-left.left _ _ c.loop-left-test.true (c.in-None.ensures N)

pub loop-left-preserved : goal.loop-left-preserved
loop-left-preserved c =
    let pushed = c.in_ok-inputs-in-Some.ensures in
    let top = c.in-Some.ensures in (
      grows_trans _ _ _ c.loop-left.invariant.0 pushed.grows,
      pushed.made.valid,
      pushed.grows.stacks c.in-Some.below top.rest,
      λ N. c.loop-left.invariant.3 N ∙ take_step N c.loop-left.marks c.push.new.self c.loop-left.left c.loop-left.inputs c.loop-left.rest c.in-Some.mark c.in-Some.below c.in_ok-inputs-in-Some.inputs c.loop-left-test.true top pushed.grows pushed.made,
    )
