use Rattle.std.proofs.Common.{◌∙◌}
use Rattle.fac_abs.specs.SeenMarks.{stack_of}
use Rattle.fac_check.proofs.DoingLemmas.{height_lacks, height_dead, height_leaves}
use Rattle.fac_check.proofs.doing.by_height.Goals as goal

pub returns-in-None-outs-clause-does : goal.returns-in-None-outs-clause-does
returns-in-None-outs-clause-does c = λ N words b. rw c.in-None-outs.is (height_dead c.args.height.ins b (stack_of N c.args.marks.now c.args.stack) (stack_of N c.args.marks.now c.in-Some.rest) (c.in-Some.ensures.1 N))

pub returns-in_ok-unknowns-in-Some-outs-clause-does : goal.returns-in_ok-unknowns-in-Some-outs-clause-does
returns-in_ok-unknowns-in-Some-outs-clause-does c = λ N words b. rw c.in-Some-outs.is (height_leaves c.args.height.ins c.in-Some-outs.outs b (stack_of N c.args.marks.now c.args.stack) (stack_of N c.args.marks.now c.in-Some.rest) _ (c.in-Some.ensures.1 N) (c.in_ok-unknowns-in-Some-outs.ensures.made.is N))

pub returns-in-None-clause-does : goal.returns-in-None-clause-does
returns-in-None-clause-does c = λ N words b. c.underflow.ensures.does N words b ∙ height_lacks c.args.height.ins c.args.height.outs b (stack_of N c.args.marks.now c.args.stack) (c.in-None.ensures N)
