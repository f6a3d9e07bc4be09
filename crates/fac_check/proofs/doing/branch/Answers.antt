use Rattle.fac_abs.specs.SeenMarks.{mark_of, stack_of}
use Rattle.fac_check.proofs.DoingLemmas.{if_unknown_first, if_unknown_second, if_known}
use Rattle.fac_check.proofs.doing.branch.Goals as goal

pub returns-then-not-is_callable-clause-does : goal.returns-then-not-is_callable-clause-does
returns-then-not-is_callable-clause-does c = λ P N words b.
    let M = c.args.marks.now in
    let there = c.in-Some.ensures.3 N in
    if_unknown_first P b _ (mark_of N M c.in-Some.second) (mark_of N M c.in-Some.first) there.0 (stack_of N M c.in-Some.stack) there.1 (c.if-not-is_callable.ensures N)

pub returns-then-not-is_callable-2-clause-does : goal.returns-then-not-is_callable-2-clause-does
returns-then-not-is_callable-2-clause-does c = λ P N words b.
    let M = c.args.marks.now in
    let there = c.in-Some.ensures.3 N in
    if_unknown_second P b _ (mark_of N M c.in-Some.second) (mark_of N M c.in-Some.first) there.0 (stack_of N M c.in-Some.stack) there.1 (c.if-not-is_callable.ensures N) (c.if-not-is_callable-2.ensures N)

pub returns-else-not-is_callable-2-clause-does : goal.returns-else-not-is_callable-2-clause-does
returns-else-not-is_callable-2-clause-does c = λ P N words b.
    let M = c.args.marks.now in
    let there = c.in-Some.ensures.3 N in
    if_known P b _ (mark_of N M c.in-Some.second) (mark_of N M c.in-Some.first) there.0 (stack_of N M c.in-Some.stack) there.1 (c.if-not-is_callable.ensures N) (c.if-not-is_callable-2.ensures N)
