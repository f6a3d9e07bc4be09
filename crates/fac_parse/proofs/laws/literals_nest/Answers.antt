use Rattle.fac_parse.proofs.NestedItems as lemma
use Rattle.fac_parse.proofs.laws.literals_nest.Goals as goal

pub returns : goal.returns
returns c = lemma.literals_nest
