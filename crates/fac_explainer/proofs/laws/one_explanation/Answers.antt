use Rattle.fac_explainer.proofs.ExplainedLemmas.{one_told}
use Rattle.fac_explainer.proofs.laws.one_explanation.Goals as goal

pub returns : goal.returns
returns c = one_told c.one_answer.ensures c.one_list_of_spots.ensures c.one_refusal.ensures
