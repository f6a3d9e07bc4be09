use Rattle.std.proofs.Common.{◌≡◌, drop}
use Rattle.fac_vocab.specs.inner.Rows.{defined_among}
use Rattle.fac_vocab.proofs.search.is_defined_in.Given as goal

abbrev pub invariant-loop-number : goal.invariant-loop-number
invariant-loop-number l = defined_among l.entries l.vocab l.numbers ≡ defined_among l.entries l.vocab (drop l.number-index l.numbers)
