use Rattle.std.proofs.Common.{◌++◌, arith, ◌∙◌}
use Rattle.fac_spelling.proofs.NumberLaws.{completes_start, completes_on, completes_end}
use Rattle.fac_spelling.proofs.numbers.write_number.Goals as goal
use Rattle.fac_spelling.specs.Numbers.{shortest}

pub loop-left-init : goal.loop-left-init
loop-left-init c = completes_start c.args.out.now c.args.number (omega arith)

pub loop-left-preserved : goal.loop-left-preserved
loop-left-preserved c = rw c.in_ok-push.ensures.ok (completes_on c.loop-left.out c.loop-left.left _ (c.args.out.now ++ shortest c.args.number) (omega arith) (omega arith) c.loop-left.invariant)

pub returns : goal.returns
returns c = c.in_ok-push-2.ensures.ok ∙ completes_end c.loop-left.out c.loop-left.left (c.args.out.now ++ shortest c.args.number) (omega arith) c.loop-left.invariant
