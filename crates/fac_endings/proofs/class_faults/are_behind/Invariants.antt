use Rattle.std.proofs.Common.{◌≡◌, drop}
use Rattle.fac_endings.specs.inner.Behind.{are_behind}
use Rattle.fac_endings.proofs.class_faults.are_behind.Given as goal

abbrev pub invariant-loop-tok : goal.invariant-loop-tok
invariant-loop-tok l = are_behind l.first l.toks ≡ are_behind l.first (drop l.tok-index l.toks)
