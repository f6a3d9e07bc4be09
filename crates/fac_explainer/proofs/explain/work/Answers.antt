use Rattle.std.proofs.Common.{inl}
use Rattle.fac_explainer.proofs.IdleLemmas.{unwritten}
use Rattle.fac_explainer.proofs.explain.work.Goals as goal

pub returns-in-Err : goal.returns-in-Err
returns-in-Err g c = inl (record { ends = c.in-Err.ensures.loads; unwritten = unwritten (g.K.Sink.taken c.args.out.now) (g.K.Sink.pieces c.args.out.now) (g.K.Sink.faults c.args.out.now) })
