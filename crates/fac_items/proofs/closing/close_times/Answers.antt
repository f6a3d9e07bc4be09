use Rattle.fac_items.proofs.CodeLemmas.{times_more}
use Rattle.fac_items.proofs.closing.close_times.Goals as goal

pub loop-pair-preserved : goal.loop-pair-preserved
loop-pair-preserved c =
    let at = c.loop-pair in
    times_more c.args.scope.now c.args.times at._pair c.args.nest.now at.nest c.close_bracket.new.nest c.loop-pair-test.true at.invariant c.in_ok-close_bracket.ensures
