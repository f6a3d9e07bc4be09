use Rattle.std.proofs.Common.{◌≡◌, length, reverse}
use Rattle.fac_vocab.specs.Scopes.{latest}
use Rattle.fac_vocab.proofs.brought_names.latest_of.Given as goal

abbrev pub invariant-loop-last : goal.invariant-loop-last
invariant-loop-last l = latest l.table l.name (reverse l.forms) ≡ latest l.table l.name (reverse l.rest)

abbrev pub decreases-loop-last : goal.decreases-loop-last
decreases-loop-last l = length l.rest
