use Rattle.std.proofs.Common.{refl, subst}
use Rattle.fac_abs.specs.Marks.{joined}
use Rattle.fac_abs.specs.SeenMarks.{reached_seen}
use Rattle.fac_abs.specs.MarkPromises.{IsReachedWhere}
use Rattle.fac_check.proofs.walker.joined.Goals as goal

pub returns-in-Some-clause-joins : goal.returns-in-Some-clause-joins
returns-in-Some-clause-joins c =
    let M = c.args.marks.now in
    let made = subst (λ o. IsReachedWhere c.join.new.self o (λ N. joined (reached_seen N M c.args.first) (reached_seen N M c.args.second))) c.in-Some.is c.in_ok-reached.ensures.made in
    λ N. rw (made.1 N) refl

pub returns-in-None-clause-joins : goal.returns-in-None-clause-joins
returns-in-None-clause-joins c =
    let M = c.args.marks.now in
    let made = subst (λ o. IsReachedWhere c.join.new.self o (λ N. joined (reached_seen N M c.args.first) (reached_seen N M c.args.second))) c.in-None.is c.in_ok-reached.ensures.made in
    λ N. rw (made N, c.height-upper.ensures N, c.height-lower.ensures N) refl
