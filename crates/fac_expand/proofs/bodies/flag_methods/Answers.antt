use Rattle.std.proofs.Common.{sym, subst}
use Rattle.fac_expand.specs.inner.Bodies.{AreMethodsFlagged}
use Rattle.fac_expand.proofs.BodyLemmas.{method_flagged}
use Rattle.fac_expand.proofs.bodies.flag_methods.Goals as goal
use Rattle.fac_expand.proofs.bodies.flag_methods.Goals.{in-Some, in-None}

pub loop-index-preserved : goal.loop-index-preserved
loop-index-preserved c =
    let old = c.args.flags.now in
    let methods = c.args.methods.now in
    let at = c.loop-index in
    elim c.match-get.branch [
      | in-Some w ↦ subst (AreMethodsFlagged old methods) (sym w.flags-is) (method_flagged old at.flags w.flag.new.flags methods at.index w.in-Some.method.now (sym w.in-Some.ensures) at.invariant w.flag.ensures)
      | in-None w ↦ subst (AreMethodsFlagged old methods) (sym w.flags-is) at.invariant
    ]
