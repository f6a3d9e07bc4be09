use Rattle.std.proofs.Common.{◌≡◌, ◌+◌, drop, length}
use Rattle.fac_endings.specs.inner.Chains.{slots_of}
use Rattle.fac_endings.proofs.parents.are_too_many.Given as goal

abbrev pub invariant-loop-bearer : goal.invariant-loop-bearer
invariant-loop-bearer l = l.fn.own + length (slots_of l.classes l.bearers) ≡ l.count + length (slots_of l.classes (drop l.bearer-index l.bearers))
