use Rattle.fac_items.proofs.CodeLemmas.{bound_more}
use Rattle.fac_items.proofs.nest.bind_all.Goals as goal

pub loop-count-preserved : goal.loop-count-preserved
loop-count-preserved c =
    let at = c.loop-count in
    let m = bound_more c.args.names.now at.count _ c.is_among-twice.result c.args.nest.now at.nest c.bind.new.nest c.loop-count-test.true at.invariant.within c.is_among-twice.ensures at.invariant.bound c.in_ok-bind.ensures in
    record { within = m.within; bound = m.bound }
