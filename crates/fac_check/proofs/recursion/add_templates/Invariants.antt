use Rattle.std.proofs.Common.{◌≡◌, ◌++◌, drop}
use Rattle.fac_lang.specs.PhraseView.{items_phrase}
use Rattle.fac_check.specs.inner.UndeclaredRecursion.{phrase_makes}
use Rattle.fac_check.proofs.recursion.add_templates.Given as goal

abbrev pub invariant-loop-item : goal.invariant-loop-item
invariant-loop-item l = l.initial.made ++ phrase_makes l.from l.phrase ≡ l.made ++ phrase_makes l.from (items_phrase (drop l.item-index l.item-items))
