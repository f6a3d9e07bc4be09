use Rattle.fac_parse.proofs.ParseLemmas as lemma
use Rattle.fac_parse.proofs.laws.one_tree.Goals as goal

pub returns : goal.returns
returns c = lemma.one_tree
