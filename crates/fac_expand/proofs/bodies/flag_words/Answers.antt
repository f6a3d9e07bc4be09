use Rattle.std.proofs.Common.{sym, subst}
use Rattle.fac_expand.specs.inner.Bodies.{OnlyBegin}
use Rattle.fac_expand.proofs.BodyLemmas.{word_begins}
use Rattle.fac_expand.proofs.bodies.flag_words.Goals as goal
use Rattle.fac_expand.proofs.bodies.flag_words.Goals.{in-Some, in-None}

pub loop-index-preserved : goal.loop-index-preserved
loop-index-preserved c =
    λ only.
    let M = c.args.image.now in
    let at = c.loop-index in
    elim c.match-get.branch [
      | in-Some w ↦ subst (OnlyBegin M) (sym w.flags-is) (word_begins M at.flags w.flag_action.new.flags at.index w.in-Some.word.now (sym w.in-Some.ensures) w.flag_action.ensures (at.invariant only))
      | in-None w ↦ subst (OnlyBegin M) (sym w.flags-is) (at.invariant only)
    ]
