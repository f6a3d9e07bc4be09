use Rattle.std.proofs.Common.{◌≡◌, drop}
use Rattle.fac_lang.specs.PhraseView.{items_phrase}
use Rattle.fac_emit.specs.Heights.{phrase_asks}
use Rattle.fac_emit.proofs.asked.phrase_asks.Given as goal

abbrev pub invariant-loop-item : goal.invariant-loop-item
invariant-loop-item l = phrase_asks l.phrase ≡ phrase_asks (items_phrase (drop l.item-index l.item-items))
