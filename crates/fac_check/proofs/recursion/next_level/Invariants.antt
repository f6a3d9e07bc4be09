use Rattle.std.proofs.Common.{◌≡◌, true, ◌++◌, length, drop}
use Rattle.fac_check.specs.inner.UndeclaredRecursion.{are_below, level_names, level_makes}
use Rattle.fac_check.proofs.recursion.next_level.Given as goal

abbrev pub invariant-loop-number : goal.invariant-loop-number
invariant-loop-number l =
    record {
      below : are_below (length l.closed.templates) (drop l.number-index l.number-items) ≡ true;
      names : l.initial.named ++ level_names l.closed.program l.closed.templates l.level ≡ l.named ++ level_names l.closed.program l.closed.templates (drop l.number-index l.number-items);
      makes : level_makes l.from l.closed.templates l.level ≡ l.made ++ level_makes l.from l.closed.templates (drop l.number-index l.number-items);
    }
