use Rattle.std.proofs.Common.{◌≤◌, ℕ}
use Rattle.std.specs.Prelude.{slice_get}
use Rattle.fac_lang.specs.Phrases.{Literal}
use Rattle.fac_abs.specs.SeenMarks.{Grows}
use Rattle.fac_check.specs.inner.Walking.{Opened, IsDoingOf, ComesTo}
use Rattle.fac_check.proofs.doing.follow.Given as goal

abbrev pub invariant-following : goal.invariant-following
invariant-following l = record {
  grows : Grows l.initial.marks l.marks;
  there : IsDoingOf (slice_get l.subject.closed.now.program.words) l.marks l.last;
  within : l.left ≤ l.step.left;
  follows : (O : Opened l.subject.closed.now.program l.subject.closed.now.templates l.subject.own l.subject.inner) (next : Literal) (f : ℕ) → l.step.left ≤ f → ComesTo O l.initial.marks l.marks l.step l.fn.doing l.last next f l.left;
}

abbrev pub decreases-following : goal.decreases-following
decreases-following l = l.left
