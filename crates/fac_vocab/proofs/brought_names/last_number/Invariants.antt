use Rattle.std.proofs.Common.{◌≡◌, length}
use Rattle.fac_vocab.specs.inner.BroughtForms.{last_giving}
use Rattle.fac_vocab.proofs.brought_names.last_number.Given as goal

abbrev pub invariant-loop-number : goal.invariant-loop-number
invariant-loop-number l = last_giving l.table l.forms l.name l.numbers ≡ last_giving l.table l.forms l.name l.rest

abbrev pub decreases-loop-number : goal.decreases-loop-number
decreases-loop-number l = length l.rest
