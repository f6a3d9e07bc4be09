use Rattle.fac_graph.proofs.PathLemmas.{cycles}
use Rattle.fac_graph.proofs.laws.cycles_of_classes.Goals as goal

pub returns : goal.returns
returns c = cycles
