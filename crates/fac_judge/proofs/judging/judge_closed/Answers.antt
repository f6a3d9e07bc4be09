use Rattle.fac_judge.proofs.ClosedNameLemmas.{same_names}
use Rattle.fac_judge.proofs.JudgedLemmas.{accepted_by}
use Rattle.fac_judge.proofs.judging.judge_closed.Goals as goal

pub returns-in-Some : goal.returns-in-Some
returns-in-Some g c = λ P closes whole. c.refused.ensures P c.args.closed.start (same_names P c.args.closed.program c.args.closed.templates closes) (rw c.in-Some.is at (c.in-Ok.ensures P closes whole))

pub returns-in-None : goal.returns-in-None
returns-in-None g c = λ P closes whole. accepted_by c.accepted_programs_are_safe.ensures P c.args.closed c.accept.result.closed c.accept.ensures.closed closes whole (rw c.in-None.is at (c.in-Ok.ensures P closes whole))

pub accept-requires-clause-accepted : goal.accept-requires-clause-accepted
accept-requires-clause-accepted g c = λ P closes whole. rw c.in-None.is at (c.in-Ok.ensures P closes whole)
