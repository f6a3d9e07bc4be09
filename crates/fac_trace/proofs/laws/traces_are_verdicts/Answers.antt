use Rattle.fac_trace.proofs.ErasedTraces.{traces_are}
use Rattle.fac_trace.proofs.laws.traces_are_verdicts.Goals as goal

pub returns : goal.returns
returns c = traces_are
