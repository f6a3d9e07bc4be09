use Rattle.std.proofs.Common.{◌≡◌, true, ◌-◌, ◌++◌, length}
use Rattle.fac_lang.specs.declared.program.Program.{Program}
use Rattle.fac_locals.specs.Closed.{Closes}
use Rattle.fac_check.specs.inner.UndeclaredRecursion.{are_below, are_from, template_words, SameNumbers}
use Rattle.fac_check.proofs.recursion.add_levels.Given as goal

abbrev pub invariant-levels : goal.invariant-levels
invariant-levels l =
    record {
      below : are_below (length l.closed.templates) l.level ≡ true;
      least : are_from l.depth l.level ≡ true;
      names : (P : Program) → Closes P l.closed.program l.closed.templates → SameNumbers (l.initial.named ++ template_words P l.initial.level) (l.named ++ template_words P l.level);
    }

abbrev pub decreases-levels : goal.decreases-levels
decreases-levels l = length l.closed.templates - l.depth
