use Rattle.std.proofs.Common.{◌∙◌}
use Rattle.fac_abs.specs.SeenMarks.{stack_of}
use Rattle.fac_check.proofs.ClassDoings.{tuple_made, tuple_lacks}
use Rattle.fac_check.proofs.doing.tuple.Goals as goal

pub returns-in_ok-unknowns-in-Some-below-clause-does : goal.returns-in_ok-unknowns-in-Some-below-clause-does
returns-in_ok-unknowns-in-Some-below-clause-does c = λ N words b.
    let M = c.args.marks.now in
    rw c.in-Some.is (tuple_made c.in-Some.count b (stack_of N M c.args.rest) (stack_of N M c.in-Some-below.below) _ (c.in-Some-below.ensures.1 N) (c.in_ok-unknowns-in-Some-below.ensures.made.is N))

pub returns-in_ok-needs-in-None-clause-does : goal.returns-in_ok-needs-in-None-clause-does
returns-in_ok-needs-in-None-clause-does c = λ N words b.
    rw c.in-Some.is (tuple_lacks c.in-Some.count c.in_ok-needs-in-None.needs c.height-has.result b (stack_of N c.args.marks.now c.args.rest) (c.in-None.ensures N) c.in_ok-needs-in-None.ensures (c.height-has.ensures N ∙ c.requires.top N))
