use Rattle.fac_expand.specs.inner.Pieces.{moved_generic}
use Rattle.fac_expand.proofs.MappedLists.{mapped_step}
use Rattle.fac_expand.proofs.moving.moved_generics.Goals as goal

pub loop-generic-preserved : goal.loop-generic-preserved
loop-generic-preserved c =
    let at = c.loop-generic in
    let items = c.as_slice-generic-items in
    mapped_step (moved_generic c.args.start c.args.places.now) c.args.generics.now at.generic-index c.generic-item.result items.result.now items.ensures c.loop-generic-test.true c.generic-item.is _ at.rows _ _ c.loop-generic.invariant c.in_ok-moved_generic.ensures c.in_ok-push.ensures.ok
