use Rattle.std.proofs.Common.{◌≡◌, ◌+◌, ◌*◌, drop}
use Rattle.fac_lang.specs.PhraseView.{items_phrase}
use Rattle.fac_emit.specs.ProgramTexts.{with_texts, phrase_texts, elements_texts, template_texts, array_texts}
use Rattle.fac_emit.proofs.sequence.+nested.Given as goal

abbrev pub decreases-add_array : goal.decreases-add_array
decreases-add_array l = 3 * l.levels

abbrev pub decreases-add_template : goal.decreases-add_template
decreases-add_template l = 3 * l.levels

abbrev pub decreases-add_item : goal.decreases-add_item
decreases-add_item l = 3 * l.levels + 1

abbrev pub decreases-add_element : goal.decreases-add_element
decreases-add_element l = 3 * l.levels + 1

abbrev pub decreases-add_phrase : goal.decreases-add_phrase
decreases-add_phrase l = 3 * l.levels + 2

abbrev pub decreases-add_elements : goal.decreases-add_elements
decreases-add_elements l = 3 * l.levels + 2

abbrev pub invariant-add_phrase-loop-item : goal.invariant-add_phrase-loop-item
invariant-add_phrase-loop-item l =
    let template = template_texts l.closed l.levels in
    let array = array_texts l.closed l.levels in
    with_texts l.initial.texts (phrase_texts template array l.phrase) ≡ with_texts l.texts (phrase_texts template array (items_phrase (drop l.item-index l.item-items)))

abbrev pub invariant-add_elements-loop-lit : goal.invariant-add_elements-loop-lit
invariant-add_elements-loop-lit l =
    let template = template_texts l.closed l.levels in
    let array = array_texts l.closed l.levels in
    with_texts l.initial.texts (elements_texts template array l.lits) ≡ with_texts l.texts (elements_texts template array (drop l.lit-index l.lits))
