use Rattle.fac_generic.proofs.MethodLawLemmas.{lawful}
use Rattle.fac_generic.proofs.laws.methods_are_lawful.Goals as goal

pub returns : goal.returns
returns c = lawful
