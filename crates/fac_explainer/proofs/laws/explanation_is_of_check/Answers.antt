use Rattle.fac_explainer.proofs.VerdictLemmas.{explains_checked}
use Rattle.fac_explainer.proofs.laws.explanation_is_of_check.Goals as goal

pub returns : goal.returns
returns c = explains_checked c.one_refusal.ensures
