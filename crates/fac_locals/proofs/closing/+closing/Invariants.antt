use Rattle.std.proofs.Common.{◌≡◌, ◌≤◌, ◌+◌, ◌*◌, ◌++◌, ℕ, List, length, reverse}
use Rattle.std.specs.Vec.Iter.{into_iter_items, into_iter_len}
use Rattle.fac_base.specs.declared.place.Place.{Place}
use Rattle.fac_lang.specs.Phrases.{Item, phrase_depth, item_depth}
use Rattle.fac_lang.specs.PhraseView.{choices_behind, choices_phrase, items_phrase, what_item}
use Rattle.fac_locals.specs.declared.cell.Cell.{Cell}
use Rattle.fac_locals.specs.Asked.{AreAskedBy, quotations_in}
use Rattle.fac_locals.specs.declared.closing.Closing.{Closing}
use Rattle.fac_locals.specs.inner.Numbering.{ItemsClosed, Inside, AreAsked, phrase_cells}
use Rattle.fac_locals.proofs.closing.+closing.Given as goal

abbrev pub decreases-close_what : goal.decreases-close_what
decreases-close_what l = 4 * item_depth (what_item l.what)

abbrev pub decreases-close_quotation : goal.decreases-close_quotation
decreases-close_quotation l = 4 * phrase_depth l.phrase + 2

abbrev pub decreases-close_phrase : goal.decreases-close_phrase
decreases-close_phrase l = 4 * phrase_depth l.phrase + 1

abbrev pub decreases-enter : goal.decreases-enter
decreases-enter l = 4 * phrase_depth l.phrase + 2

abbrev pub decreases-enter_inside : goal.decreases-enter_inside
decreases-enter_inside l = 4 * phrase_depth (choices_behind l.choices.word l.choices.place (reverse l.choices.phrases.items))

abbrev pub decreases-close_choices : goal.decreases-close_choices
decreases-close_choices l = 4 * phrase_depth (choices_phrase l.choices) + 3

abbrev pub invariant-close_phrase-loop-item : goal.invariant-close_phrase-loop-item
invariant-close_phrase-loop-item l = record {
  closes : (is : List Item) → AreAskedBy (quotations_in (items_phrase (into_iter_items l.initial.item-iterator)) ++ is) l.initial.closing.asked → ItemsClosed l.around.counts.now l.around.method l.initial.cells l.initial.closing (into_iter_items l.initial.item-iterator) l.items.items l.cells l.closing (into_iter_items l.item-iterator) is;
  cells_are : phrase_cells l.initial.cells (items_phrase (into_iter_items l.initial.item-iterator)) ≡ phrase_cells l.cells (items_phrase (into_iter_items l.item-iterator));
  deep : phrase_depth (items_phrase (into_iter_items l.item-iterator)) ≤ phrase_depth (items_phrase (into_iter_items l.initial.item-iterator));
  count : into_iter_len l.item-iterator ≡ length (into_iter_items l.item-iterator);
}

abbrev pub invariant-enter_inside-loop-phrase : goal.invariant-enter_inside-loop-phrase
invariant-enter_inside-loop-phrase l = record {
  enters :
      (w : ℕ) (outer : List Cell) (start : Closing) (p : Place) (i : Item) (is : List Item) →
      Inside l.around.counts.now l.around.method w l.place outer start p i l.initial.levels l.initial.inner l.initial.closing (choices_behind w l.place (reverse l.initial.rest.items)) is → Inside l.around.counts.now l.around.method w l.place outer start p i l.levels l.inner l.closing (choices_behind w l.place (reverse l.rest.items)) is;
  asked : AreAsked (quotations_in (choices_behind l.fn.choices.word l.place (reverse l.rest.items))) l.closing.asked;
  deep : phrase_depth (choices_behind l.fn.choices.word l.place (reverse l.rest.items)) ≤ phrase_depth (choices_behind l.fn.choices.word l.place (reverse l.initial.rest.items));
}

abbrev pub decreases-enter_inside-loop-phrase : goal.decreases-enter_inside-loop-phrase
decreases-enter_inside-loop-phrase l = length l.rest.items
