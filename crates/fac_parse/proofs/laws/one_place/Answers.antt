use Rattle.fac_parse.proofs.ParseLemmas as lemma
use Rattle.fac_parse.proofs.laws.one_place.Goals as goal

pub returns : goal.returns
returns c = lemma.one_place
