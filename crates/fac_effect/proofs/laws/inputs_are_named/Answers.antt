use Rattle.fac_effect.proofs.LocalNameLemmas as lemma
use Rattle.fac_effect.proofs.laws.inputs_are_named.Goals as goal

pub returns : goal.returns
returns c = lemma.inputs_are_named
