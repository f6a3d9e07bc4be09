use Rattle.std.proofs.Common.{◌+◌, drop, ap}
use Rattle.fac_emit.specs.ProgramTexts.{class_texts, classes_texts}
use Rattle.fac_emit.proofs.EmitLemmas.{next_of}
use Rattle.fac_emit.proofs.TextLemmas.{texts_step}
use Rattle.fac_emit.proofs.sequence.add_classes.Goals as goal

pub loop-class-preserved : goal.loop-class-preserved
loop-class-preserved c =
    let at = c.loop-class in
    let items = c.as_slice-class-items in
    let all = c.args.classes.now in
    let i = at.class-index in
    texts_step _ at.texts _ (classes_texts (drop i all)) (class_texts c.class-item.result) (classes_texts (drop (i + 1) all)) at.invariant (ap classes_texts (next_of all i c.class-item.result items.result.now items.ensures c.loop-class-test.true c.class-item.is)) c.in_ok-add_class.ensures
