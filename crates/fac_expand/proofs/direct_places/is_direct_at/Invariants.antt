use Rattle.fac_expand.specs.inner.DirectPlaces.{DirectAt, AreDirect}
use Rattle.fac_expand.proofs.direct_places.is_direct_at.Given as goal

abbrev pub invariant-loop-index : goal.invariant-loop-index
invariant-loop-index l = DirectAt l.plain l.uses l.fn.depth l.place → AreDirect l.plain l.uses l.waiting
