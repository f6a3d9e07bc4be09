use Rattle.fac_parse.proofs.NestedItems as lemma
use Rattle.fac_parse.proofs.laws.one_nesting.Goals as goal

pub returns : goal.returns
returns c = lemma.one_nesting
