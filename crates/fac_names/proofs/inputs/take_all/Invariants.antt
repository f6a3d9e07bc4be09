use Rattle.std.proofs.Common.{◌≡◌, drop, fold}
use Rattle.fac_names.specs.inner.Walks.{token_taken, walk_seen}
use Rattle.fac_names.proofs.inputs.take_all.Given as goal

abbrev pub invariant-loop-token : goal.invariant-loop-token
invariant-loop-token l = fold token_taken (walk_seen l.initial.walk) l.tokens ≡ fold token_taken (walk_seen l.walk) (drop l.token-index l.tokens)
