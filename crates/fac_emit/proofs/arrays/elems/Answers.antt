use Rattle.fac_emit.specs.inner.Coded.{element_is_coded}
use Rattle.fac_emit.specs.ProgramCode.{elem_of}
use Rattle.fac_emit.proofs.CodedItems.{item_passes}
use Rattle.fac_emit.proofs.EmitLemmas.{mapped_step}
use Rattle.fac_emit.proofs.arrays.elems.Goals as goal

pub elem-requires : goal.elem-requires
elem-requires c =
    let items = c.as_slice-lit-items in
    item_passes element_is_coded c.args.lits.now c.loop-lit.lit-index c.lit-item.result items.result.now items.ensures c.loop-lit-test.true c.lit-item.is c.requires

pub loop-lit-preserved : goal.loop-lit-preserved
loop-lit-preserved c =
    let at = c.loop-lit in
    let items = c.as_slice-lit-items in
    let closed = c.args.emission.now in
    mapped_step (elem_of closed) c.args.lits.now at.lit-index c.lit-item.result items.result.now items.ensures c.loop-lit-test.true c.lit-item.is _ at.elems _ c.elem.result at.invariant c.elem.ensures c.in_ok-push.ensures.ok
