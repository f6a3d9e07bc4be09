use Rattle.std.proofs.Common.{◌+◌, drop, ap}
use Rattle.fac_emit.specs.ProgramTexts.{own_elements_texts, arrays_texts}
use Rattle.fac_emit.proofs.EmitLemmas.{next_of}
use Rattle.fac_emit.proofs.TextLemmas.{texts_step}
use Rattle.fac_emit.proofs.sequence.add_arrays.Goals as goal

pub loop-lits-preserved : goal.loop-lits-preserved
loop-lits-preserved c =
    let at = c.loop-lits in
    let items = c.as_slice-lits-items in
    let all = c.args.closed.now.program.arrays in
    let i = at.lits-index in
    texts_step _ at.texts _ (arrays_texts (drop i all)) (own_elements_texts c.lits-item.result) (arrays_texts (drop (i + 1) all)) at.invariant (ap arrays_texts (next_of all i c.lits-item.result items.result.now items.ensures c.loop-lits-test.true c.lits-item.is)) c.in_ok-add_own_elements.ensures
