use Rattle.fac_parse.proofs.ParseLemmas as lemma
use Rattle.fac_parse.proofs.laws.tree_or_none.Goals as goal

pub returns : goal.returns
returns c = lemma.tree_or_none
