use Rattle.std.proofs.Common.{◌≡◌, ◌++◌}
use Rattle.fac_gen.specs.Generated.{calls}
use Rattle.fac_gen.proofs.texts.push_calls.Given as goal

-- the lines so far
abbrev pub invariant-loop-k : goal.invariant-loop-k
invariant-loop-k l = l.text ≡ l.initial.text ++ calls l.k
