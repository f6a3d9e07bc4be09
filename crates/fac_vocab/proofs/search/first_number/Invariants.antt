use Rattle.std.proofs.Common.{◌≡◌, drop}
use Rattle.fac_vocab.specs.inner.Rows.{first_among}
use Rattle.fac_vocab.proofs.search.first_number.Given as goal

abbrev pub invariant-loop-number : goal.invariant-loop-number
invariant-loop-number l = first_among l.entries l.vocab l.numbers ≡ first_among l.entries l.vocab (drop l.number-index l.numbers)
