use Rattle.std.proofs.Common.{refl}
use Rattle.fac_listener.proofs.session.Session.wait.Goals as goal

pub returns-clause-texts : goal.returns-clause-texts
returns-clause-texts c = refl

pub returns-clause-waiting : goal.returns-clause-waiting
returns-clause-waiting c = refl

pub returns-clause-machine : goal.returns-clause-machine
returns-clause-machine c = refl
