use Rattle.std.proofs.Common.{◌≡◌, ◌++◌, Some, drop, length}
use Rattle.fac_endings.specs.inner.Finishes.{line}
use Rattle.fac_endings.proofs.finishing.line_of.Given as goal

abbrev pub invariant-loop-step : goal.invariant-loop-step
invariant-loop-step l = line (length l.classes) l.classes (Some l.class) ≡ l.line.items ++ line (length (drop l._step-index l.classes)) l.classes l.at
