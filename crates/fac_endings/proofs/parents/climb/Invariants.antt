use Rattle.std.proofs.Common.{◌≡◌, ◌+◌, ◌++◌, drop, length}
use Rattle.fac_endings.specs.inner.Chains.{slots_of, walk}
use Rattle.fac_endings.proofs.parents.climb.Given as goal

abbrev pub invariant-loop-step : goal.invariant-loop-step
invariant-loop-step l =
    record {
      slots : slots_of l.classes l.initial.chain.bearers.items ++ slots_of l.classes (walk (length l.classes) l.classes l.initial.met.items l.initial.chain.at) ≡ slots_of l.classes l.chain.bearers.items ++ slots_of l.classes (walk (length (drop l._step-index l.classes)) l.classes l.met.items l.chain.at);
      count : l.chain.count + length (slots_of l.classes l.initial.chain.bearers.items) ≡ l.initial.chain.count + length (slots_of l.classes l.chain.bearers.items);
    }
