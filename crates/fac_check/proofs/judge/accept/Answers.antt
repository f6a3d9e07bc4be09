use Rattle.fac_check.proofs.Promised.{accepted_are_safe}
use Rattle.fac_check.proofs.judge.accept.Goals as goal

pub returns-clause-kept : goal.returns-clause-kept
returns-clause-kept c = λ P closes whole. accepted_are_safe P c.args.closed.start whole (c.requires.accepted P closes whole)
