use Rattle.std.proofs.Common.{ap, subst, ◌∙◌}
use Rattle.fac_lang.specs.Phrases.{any}
use Rattle.fac_abs.specs.InTurn.{moved}
use Rattle.fac_abs.specs.SeenMarks.{stack_of}
use Rattle.fac_abs.specs.MarkPromises.{IsStackWhere}
use Rattle.fac_check.specs.inner.Walking.{lacks}
use Rattle.fac_check.proofs.DoingLemmas.{moved_gives, moved_lacks}
use Rattle.fac_check.proofs.doing.shuffle.Goals as goal

pub returns-in-Some-clause-does : goal.returns-in-Some-clause-does
returns-in-Some-clause-does c =
    let made = subst (λ o. IsStackWhere c.shuffle.new.self o (λ N. moved any c.args.takes c.args.leaves.now (stack_of N c.args.marks.now c.args.stack))) c.in-Some.is c.in_ok-moved.ensures.made in
    λ N words b. moved_gives c.args.takes c.args.leaves.now b (stack_of N c.args.marks.now c.args.stack) (stack_of N c.shuffle.new.self c.in-Some.moved) (made.1 N)

pub returns-in-None-clause-does : goal.returns-in-None-clause-does
returns-in-None-clause-does c =
    let short = subst (λ o. IsStackWhere c.shuffle.new.self o (λ N. moved any c.args.takes c.args.leaves.now (stack_of N c.args.marks.now c.args.stack))) c.in-None.is c.in_ok-moved.ensures.made in
    λ N words b. c.underflow.ensures.does N words b ∙ ap (lacks c.args.takes b) (c.in_ok-moved.ensures.grows.same_stack N c.args.stack c.requires) ∙ moved_lacks c.args.takes c.args.leaves.now b (stack_of N c.args.marks.now c.args.stack) (short N)
