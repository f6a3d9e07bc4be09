use Rattle.fac_expand.proofs.Changing.{counting_begins, counting_goes_on, counting_ends}
use Rattle.fac_expand.proofs.pieces.numbers.Goals as goal

pub loop-number-init : goal.loop-number-init
loop-number-init c =
    counting_begins c.args.count c.new-numbers.result c.new-numbers.ensures

pub loop-number-preserved : goal.loop-number-preserved
loop-number-preserved c =
    counting_goes_on c.args.count c.loop-number.number c.loop-number.numbers c.push.new.self c.loop-number.invariant c.in_ok-push.ensures.ok

pub returns : goal.returns
returns c =
    counting_ends c.args.count c.loop-number.number c.loop-number.numbers c.loop-number.invariant c.loop-number-test.false c.loop-number.auto.number-end
