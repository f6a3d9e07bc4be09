use Rattle.fac_listener.proofs.session.Session.accept.Goals as goal

pub go_on-requires-after_bounds : goal.go_on-requires-after_bounds
go_on-requires-after_bounds g c κs within = c.requires

pub returns-clause-replies : goal.returns-clause-replies
returns-clause-replies g c = c.go_on.ensures.replies

pub returns-clause-ended : goal.returns-clause-ended
returns-clause-ended g c = c.go_on.ensures.ended

pub returns-clause-faults : goal.returns-clause-faults
returns-clause-faults g c = c.go_on.ensures.faults
