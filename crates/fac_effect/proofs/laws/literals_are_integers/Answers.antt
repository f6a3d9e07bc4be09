use Rattle.fac_effect.proofs.SpellingLemmas as lemma
use Rattle.fac_effect.proofs.laws.literals_are_integers.Goals as goal

pub returns : goal.returns
returns c = lemma.literals_are_integers
