use Rattle.fac_trace.proofs.ErasedTraces.{walks_without}
use Rattle.fac_trace.proofs.laws.walks_without_origins.Goals as goal

pub returns : goal.returns
returns c = walks_without
