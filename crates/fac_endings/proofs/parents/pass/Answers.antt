use Rattle.std.proofs.Common.{ap, ◌∙◌}
use Rattle.fac_endings.specs.inner.Chains.{slots_of}
use Rattle.fac_endings.proofs.ChainLemmas.{one_bearer}
use Rattle.fac_endings.proofs.parents.pass.Goals as goal

pub returns-in_ok-push-clause-bearers : goal.returns-in_ok-push-clause-bearers
returns-in_ok-push-clause-bearers c = ap (slots_of c.args.classes.now) c.in_ok-push.ensures.items ∙ one_bearer c.args.classes.now c.args.chain.now.bearers.items c.args.parent
