use Rattle.std.proofs.Common.{◌≡◌, true, ◌++◌, length, drop}
use Rattle.fac_lang.specs.PhraseView.{items_phrase}
use Rattle.fac_check.specs.inner.Walkable.{takes_phrase}
use Rattle.fac_check.specs.inner.UndeclaredRecursion.{phrase_names}
use Rattle.fac_check.proofs.recursion.add_names.Given as goal

abbrev pub invariant-loop-item : goal.invariant-loop-item
invariant-loop-item l =
    record {
      taken : takes_phrase l.closed.program.top (length l.closed.templates) (items_phrase (drop l.item-index l.item-items)) ≡ true;
      names : l.initial.named ++ phrase_names l.closed.program l.phrase ≡ l.named ++ phrase_names l.closed.program (items_phrase (drop l.item-index l.item-items));
    }
