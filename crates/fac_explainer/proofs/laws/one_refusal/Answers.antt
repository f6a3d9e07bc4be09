use Rattle.fac_explainer.proofs.ExplainedLemmas.{one_refused}
use Rattle.fac_explainer.proofs.laws.one_refusal.Goals as goal

pub returns : goal.returns
returns c = one_refused c.one_source.ensures
