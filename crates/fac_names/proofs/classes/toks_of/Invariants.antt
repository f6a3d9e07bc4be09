use Rattle.std.proofs.Common.{◌≡◌, ◌++◌, drop}
use Rattle.fac_names.specs.inner.Named.{toks}
use Rattle.fac_names.proofs.classes.toks_of.Given as goal

abbrev pub invariant-loop-token : goal.invariant-loop-token
invariant-loop-token l = toks l.tokens ≡ l.names ++ toks (drop l.token-index l.tokens)
