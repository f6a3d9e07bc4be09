use Rattle.fac_classes.proofs.LawLemmas.{one_first}
use Rattle.fac_classes.proofs.laws.one_class_comes_first.Goals as goal

pub returns : goal.returns
returns c = one_first
