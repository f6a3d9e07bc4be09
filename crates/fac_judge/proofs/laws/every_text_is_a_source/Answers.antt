use Rattle.fac_judge.proofs.SourceLemmas.{one_comes}
use Rattle.fac_judge.proofs.laws.every_text_is_a_source.Goals as goal

pub returns : goal.returns
returns c = one_comes c.every_file_has_an_answer.ensures c.some_place.ensures c.tree_or_none.ensures
