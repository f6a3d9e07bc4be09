use Rattle.fac_judge.proofs.SourceLemmas.{one_text}
use Rattle.fac_judge.proofs.laws.one_source.Goals as goal

pub returns : goal.returns
returns c = one_text c.one_answer.ensures c.one_place.ensures c.one_tree.ensures
