use Rattle.fac_graph.proofs.PathLemmas.{short_paths}
use Rattle.fac_graph.proofs.laws.short_paths_suffice.Goals as goal

pub returns : goal.returns
returns c = short_paths
