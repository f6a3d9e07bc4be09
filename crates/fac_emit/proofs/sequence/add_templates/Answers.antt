use Rattle.std.proofs.Common.{◌+◌, drop, ap}
use Rattle.fac_emit.specs.ProgramTexts.{own_texts, templates_texts}
use Rattle.fac_emit.proofs.EmitLemmas.{next_of}
use Rattle.fac_emit.proofs.TextLemmas.{texts_step}
use Rattle.fac_emit.proofs.sequence.add_templates.Goals as goal

pub loop-template-preserved : goal.loop-template-preserved
loop-template-preserved c =
    let at = c.loop-template in
    let items = c.as_slice-template-items in
    let all = c.args.closed.now.templates in
    let i = at.template-index in
    texts_step _ at.texts _ (templates_texts (drop i all)) (own_texts c.template-item.result.body) (templates_texts (drop (i + 1) all)) at.invariant (ap templates_texts (next_of all i c.template-item.result items.result.now items.ensures c.loop-template-test.true c.template-item.is)) c.in_ok-add_own_strings.ensures
