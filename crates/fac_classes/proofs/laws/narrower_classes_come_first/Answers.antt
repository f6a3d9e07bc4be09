use Rattle.fac_classes.proofs.LawLemmas.{narrower_first}
use Rattle.fac_classes.proofs.laws.narrower_classes_come_first.Goals as goal

pub returns : goal.returns
returns c = narrower_first
