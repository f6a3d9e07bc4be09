use Rattle.fac_judge.proofs.judging.refusal_of.Goals as goal

pub returns-in-Ok : goal.returns-in-Ok
returns-in-Ok g c = c.first_refusal_is_verdict.ensures c.args.closed.now c.in-Ok.verdicts c.first_refused.result c.in-Ok.ensures c.first_refused.ensures
