use Rattle.std.proofs.Common.{◌≡◌, ◌++◌, length}
use Rattle.fac_endings.specs.inner.Finishes.{finished_with}
use Rattle.fac_endings.proofs.finishing.words_with.Given as goal

abbrev pub decreases-loop-draft : goal.decreases-loop-draft
decreases-loop-draft l = length l.rest

abbrev pub invariant-loop-draft : goal.invariant-loop-draft
invariant-loop-draft l =
    record {
      words : finished_with l.initial.rest l.initial.finishes ≡ l.words ++ finished_with l.rest l.finishes;
      same : length l.rest ≡ length l.finishes;
    }
