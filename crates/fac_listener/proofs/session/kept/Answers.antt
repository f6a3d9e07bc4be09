use Rattle.std.proofs.Common.{refl}
use Rattle.fac_listener.proofs.StepLemmas.{closed_not_open, open_not_closed}
use Rattle.fac_listener.proofs.session.kept.Goals as goal

pub returns-then-ends-clause-stands : goal.returns-then-ends-clause-stands
returns-then-ends-clause-stands c = λ e. closed_not_open c.ends.result _ _ c.ends.ensures c.if-ends.true e

pub returns-then-ends-clause-none : goal.returns-then-ends-clause-none
returns-then-ends-clause-none c = λ e. refl

pub returns-else-ends-clause-stands : goal.returns-else-ends-clause-stands
returns-else-ends-clause-stands c = λ e. refl

pub returns-else-ends-clause-none : goal.returns-else-ends-clause-none
returns-else-ends-clause-none c = λ e. open_not_closed c.ends.result _ _ c.ends.ensures c.if-ends.false e
