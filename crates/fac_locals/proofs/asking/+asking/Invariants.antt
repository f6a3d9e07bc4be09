use Rattle.std.proofs.Common.{◌+◌, ◌*◌, length, reverse, take}
use Rattle.fac_lang.specs.Phrases.{phrase_depth, item_depth}
use Rattle.fac_lang.specs.PhraseView.{choices_phrase, what_item}
use Rattle.fac_lang.specs.inner.PhraseFalls.{deepest}
use Rattle.fac_locals.proofs.AskLemmas.{Behind, ChoicesBehind}
use Rattle.fac_locals.proofs.asking.+asking.Given as goal

abbrev pub decreases-ask_item : goal.decreases-ask_item
decreases-ask_item l = 3 * item_depth (what_item l.what.now)

abbrev pub decreases-ask_before : goal.decreases-ask_before
decreases-ask_before l = 3 * phrase_depth l.phrase.now + 1

abbrev pub decreases-ask_phrase : goal.decreases-ask_phrase
decreases-ask_phrase l = 3 * phrase_depth l.phrase.now + 2

abbrev pub decreases-ask_choices : goal.decreases-ask_choices
decreases-ask_choices l = 3 * phrase_depth (choices_phrase l.choices.now) + 2

abbrev pub decreases-ask_inside : goal.decreases-ask_inside
decreases-ask_inside l = 3 * deepest l.phrases.now

abbrev pub invariant-ask_before-loop-item : goal.invariant-ask_before-loop-item
invariant-ask_before-loop-item l = Behind l.phrase l.rest l.initial.asked l.asked l.initial.all l.all

abbrev pub decreases-ask_before-loop-item : goal.decreases-ask_before-loop-item
decreases-ask_before-loop-item l = length l.rest

abbrev pub invariant-ask_inside-loop-phrase : goal.invariant-ask_inside-loop-phrase
invariant-ask_inside-loop-phrase l = ChoicesBehind (reverse (take l.phrase-index l.phrases)) l.asked l.initial.all l.all
