use Rattle.std.proofs.Common.{◌≡◌, ◌+◌, ◌∷◌, List, drop, sym, ap, ◌∙◌}
use Rattle.std.proofs.lemmas.List.{drop_more}
use Rattle.fac_lang.specs.declared.phrase.Item.{Item as PlacedItem}
use Rattle.fac_lang.specs.PhraseView.{what_item, items_phrase}
use Rattle.fac_emit.specs.ProgramTexts.{item_texts, phrase_texts, element_texts, elements_texts, template_texts, array_texts}
use Rattle.fac_emit.proofs.EmitLemmas.{next_of}
use Rattle.fac_emit.proofs.TextLemmas.{texts_step}
use Rattle.fac_emit.proofs.sequence.+nested.Goals as goal

pub add_phrase-loop-item-preserved : goal.add_phrase-loop-item-preserved
add_phrase-loop-item-preserved t c =
    let closed = c.args.closed.now in
    let template = template_texts closed c.args.levels in
    let array = array_texts closed c.args.levels in
    let k = c.loop-item.item-index in
    let items = c.deref-item-items.result.now in
    let next : drop k items ≡ c.item-item.result ∷ drop (k + 1) items = drop_more items k c.item-item.result c.loop-item-test.true ∙ ap (λ (i : PlacedItem). i ∷ drop (k + 1) items) (sym c.item-item.is) in
    texts_step _ c.loop-item.texts _ (phrase_texts template array (items_phrase (drop k items))) (item_texts template array (what_item c.item-item.result.what)) (phrase_texts template array (items_phrase (drop (k + 1) items))) c.loop-item.invariant
    (ap (λ (is : List PlacedItem). phrase_texts template array (items_phrase is)) next) c.in_ok-add_item.ensures

pub add_elements-loop-lit-preserved : goal.add_elements-loop-lit-preserved
add_elements-loop-lit-preserved t c =
    let closed = c.args.closed.now in
    let template = template_texts closed c.args.levels in
    let array = array_texts closed c.args.levels in
    let k = c.loop-lit.lit-index in
    let lits = c.args.lits.now in
    let items = c.as_slice-lit-items in
    texts_step _ c.loop-lit.texts _ (elements_texts template array (drop k lits)) (element_texts template array c.lit-item.result) (elements_texts template array (drop (k + 1) lits)) c.loop-lit.invariant
    (ap (elements_texts template array) (next_of lits k c.lit-item.result items.result.now items.ensures c.loop-lit-test.true c.lit-item.is)) c.in_ok-add_element.ensures
