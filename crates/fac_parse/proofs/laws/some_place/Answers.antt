use Rattle.fac_parse.proofs.ParseLemmas as lemma
use Rattle.fac_parse.proofs.laws.some_place.Goals as goal

pub returns : goal.returns
returns c = lemma.some_place
