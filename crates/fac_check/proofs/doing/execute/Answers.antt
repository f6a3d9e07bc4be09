use Rattle.std.proofs.Common.{◌∙◌}
use Rattle.fac_abs.specs.SeenMarks.{mark_of, stack_of}
use Rattle.fac_check.proofs.ClassDoings.{execute_word, execute_unknown, execute_lacks}
use Rattle.fac_check.proofs.doing.execute.Goals as goal

pub returns-in-Some-word_of-clause-does : goal.returns-in-Some-word_of-clause-does
returns-in-Some-word_of-clause-does c = λ P N words b.
    let M = c.args.marks.now in
    execute_word P b (stack_of N M c.args.stack) (stack_of N M c.in-Some.rest) (mark_of N M c.in-Some.mark) c.in-Some-word_of.word (c.in-Some.ensures.is N) (c.in-Some-word_of.ensures N)

pub returns-in-None-word_of-clause-does : goal.returns-in-None-word_of-clause-does
returns-in-None-word_of-clause-does c = λ P N words b.
    let M = c.args.marks.now in
    execute_unknown P b (stack_of N M c.args.stack) (stack_of N M c.in-Some.rest) (mark_of N M c.in-Some.mark) (c.in-Some.ensures.is N) (c.in-None-word_of.ensures N)

pub returns-in-None-clause-does : goal.returns-in-None-clause-does
returns-in-None-clause-does c = λ P N words b. c.underflow.ensures.does N words b ∙ execute_lacks P b (stack_of N c.args.marks.now c.args.stack) (c.in-None.ensures N)
