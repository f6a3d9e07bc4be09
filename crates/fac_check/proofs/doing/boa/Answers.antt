use Rattle.std.proofs.Common.{length, ap, ◌∙◌}
use Rattle.fac_abs.specs.SeenMarks.{mark_of, stack_of}
use Rattle.fac_check.proofs.ClassDoings.{boa_word, boa_unknown, boa_lacks}
use Rattle.fac_check.proofs.WordItems.{ok_maps}
use Rattle.fac_check.proofs.doing.boa.Goals as goal

pub tuple-requires-clause-top : goal.tuple-requires-clause-top
tuple-requires-clause-top c = λ N. ap length (c.in-Some.ensures.is N)

pub returns-in-Some-word_of-clause-does : goal.returns-in-Some-word_of-clause-does
returns-in-Some-word_of-clause-does c =
    let M = c.args.marks.now in
    ok_maps c.tuple.result
    (λ r does P closes N words b.
    boa_word P b (stack_of N M c.args.stack) (stack_of N M c.in-Some.rest) (mark_of N M c.in-Some.mark) c.in-Some-word_of.word c.slots_of_word.result _ (c.in-Some.ensures.is N) (c.in-Some-word_of.ensures N) (c.slots_of_word.ensures P closes) (does N words b))
    c.tuple.ensures.does

pub returns-in-None-word_of-clause-does : goal.returns-in-None-word_of-clause-does
returns-in-None-word_of-clause-does c = λ P closes N words b.
    let M = c.args.marks.now in
    boa_unknown P b (stack_of N M c.args.stack) (stack_of N M c.in-Some.rest) (mark_of N M c.in-Some.mark) (c.in-Some.ensures.is N) (c.in-None-word_of.ensures N)

pub returns-in-None-clause-does : goal.returns-in-None-clause-does
returns-in-None-clause-does c = λ P closes N words b. c.underflow.ensures.does N words b ∙ boa_lacks P b (stack_of N c.args.marks.now c.args.stack) (c.in-None.ensures N)
