use Rattle.std.proofs.Common.{◌≡◌, drop}
use Rattle.fac_vocab.specs.inner.Rows.{word_among}
use Rattle.fac_vocab.proofs.search.word_in.Given as goal

abbrev pub invariant-loop-number : goal.invariant-loop-number
invariant-loop-number l = word_among l.entries l.vocab l.numbers ≡ word_among l.entries l.vocab (drop l.number-index l.numbers)
