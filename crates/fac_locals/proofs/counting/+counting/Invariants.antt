use Rattle.std.proofs.Common.{◌≡◌, ◌≤◌, ◌+◌, ◌*◌, ℕ, drop, length, reverse}
use Rattle.fac_base.specs.declared.place.Place.{Place}
use Rattle.fac_lang.specs.Meaning.{nowhere}
use Rattle.fac_lang.specs.Phrases.{phrase_depth, item_depth}
use Rattle.fac_lang.specs.PhraseView.{choices_behind, choices_phrase, items_phrase, what_item}
use Rattle.fac_locals.specs.inner.Numbering.{phrase_behind}
use Rattle.fac_locals.proofs.counting.+counting.Given as goal

abbrev pub decreases-behind_what : goal.decreases-behind_what
decreases-behind_what l = 3 * item_depth (what_item l.what.now)

abbrev pub decreases-behind_phrase : goal.decreases-behind_phrase
decreases-behind_phrase l = 3 * phrase_depth l.phrase.now + 1

abbrev pub decreases-behind_inside : goal.decreases-behind_inside
decreases-behind_inside l = 3 * phrase_depth (choices_behind 0 nowhere (reverse l.phrases.now))

abbrev pub decreases-behind_choices : goal.decreases-behind_choices
decreases-behind_choices l = 3 * phrase_depth (choices_phrase l.choices.now) + 2

abbrev pub invariant-behind_phrase-loop-item : goal.invariant-behind_phrase-loop-item
invariant-behind_phrase-loop-item l = record {
  behind_is : phrase_behind l.counts l.number l.phrase ≡ phrase_behind l.counts l.behind (items_phrase (drop l.item-index l.item-items));
  deep : phrase_depth (items_phrase (drop l.item-index l.item-items)) ≤ phrase_depth l.phrase;
}

abbrev pub invariant-behind_inside-loop-phrase : goal.invariant-behind_inside-loop-phrase
invariant-behind_inside-loop-phrase l = record {
  behind_is : (w : ℕ) (p : Place) → phrase_behind l.counts l.initial.behind (choices_behind w p (reverse l.initial.rest)) ≡ phrase_behind l.counts l.behind (choices_behind w p (reverse l.rest));
  deep : phrase_depth (choices_behind 0 nowhere (reverse l.rest)) ≤ phrase_depth (choices_behind 0 nowhere (reverse l.initial.rest));
}

abbrev pub decreases-behind_inside-loop-phrase : goal.decreases-behind_inside-loop-phrase
decreases-behind_inside-loop-phrase l = length l.rest
