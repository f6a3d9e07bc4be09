use Rattle.std.proofs.Common.{ap, ◌∙◌}
use Rattle.fac_lang.specs.declared.program.Program.{Program}
use Rattle.fac_emit.specs.inner.Coded.{array_is_coded}
use Rattle.fac_emit.specs.ProgramCode.{elems_of}
use Rattle.fac_emit.proofs.CodedItems.{item_passes}
use Rattle.fac_emit.proofs.EmitLemmas.{mapped_step}
use Rattle.fac_emit.proofs.arrays.arrays_of.Goals as goal

pub elems-requires : goal.elems-requires
elems-requires c =
    let items = c.as_slice-lits-items in
    let are = items.ensures ∙ ap (λ (P : Program). P.arrays) c.program.ensures in
    item_passes array_is_coded c.args.emission.now.program.arrays c.loop-lits.lits-index c.lits-item.result items.result.now are c.loop-lits-test.true c.lits-item.is c.requires

pub loop-lits-preserved : goal.loop-lits-preserved
loop-lits-preserved c =
    let at = c.loop-lits in
    let items = c.as_slice-lits-items in
    let closed = c.args.emission.now in
    let are = items.ensures ∙ ap (λ (P : Program). P.arrays) c.program.ensures in
    mapped_step (elems_of closed) closed.program.arrays at.lits-index c.lits-item.result items.result.now are c.loop-lits-test.true c.lits-item.is _ at.arrays _ _ at.invariant c.in_ok-elems.ensures c.in_ok-push.ensures.ok
