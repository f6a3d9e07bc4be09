use Rattle.std.proofs.Common.{List, ℕ, inr, refl, ap, subst, arith}
use Rattle.fac_io.specs.Told.{TookFront, sink_tells}
use Rattle.fac_tool.specs.declared.ended.Ended.{Ended}
use Rattle.fac_explainer.specs.Explains.{usage_note}
use Rattle.fac_explainer.proofs.explain.tell_usage.Goals as goal

pub returns-in-Err : goal.returns-in-Err
returns-in-Err g c =
    let old = c.args.notes.now in
    let now = c.write.new.self in
    let e = c.bare-in-Err.ensures in
    inr (record {
      some = omega arith;
      status = ap (λ (x : Ended). x.status) e;
      ticks = ap (λ (x : Ended). x.ticks) e;
      bare = record { stack = ap (λ (x : Ended). x.stack) e; refusal = ap (λ (x : Ended). x.refusal) e };
      rose = c.in-Err.ensures.cause.cause refl;
      note_is = subst (λ (note : List ℕ). TookFront (sink_tells (g.N.Sink.taken old) (g.N.Sink.pieces old)) (sink_tells (g.N.Sink.taken now) (g.N.Sink.pieces now)) note) c.as_slice.ensures c.in-Err.ensures.took;
    })
