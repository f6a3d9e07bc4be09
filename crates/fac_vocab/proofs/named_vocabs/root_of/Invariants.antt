use Rattle.std.proofs.Common.{◌≡◌, length}
use Rattle.fac_vocab.specs.inner.Roots.{root}
use Rattle.fac_vocab.proofs.named_vocabs.root_of.Given as goal
use denote.Shadow.{shadow}
use denote.Text.{Utf8}

abbrev pub invariant-loop-stem : goal.invariant-loop-stem
invariant-loop-stem l = (root l.text ≡ root l.rest) × shadow (Utf8 l.rest)

abbrev pub decreases-loop-stem : goal.decreases-loop-stem
decreases-loop-stem l = length l.rest
