use Rattle.fac_tool.proofs.SourceLemmas as lemma
use Rattle.fac_tool.proofs.laws.one_source.Goals as goal

pub returns : goal.returns
returns c = lemma.one_source c.one_answer.ensures c.one_place.ensures c.one_tree.ensures
