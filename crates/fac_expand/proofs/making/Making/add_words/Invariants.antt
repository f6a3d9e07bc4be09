use Rattle.std.proofs.Common.{◌≡◌}
use Rattle.fac_expand.specs.inner.Makings.{Goes}
use Rattle.fac_expand.proofs.making.Making.add_words.Given as goal

abbrev pub invariant-loop-word : goal.invariant-loop-word
invariant-loop-word l = record {
  count : l.number ≡ l.word-index;
  goes : Goes l.plain 0 l.initial.self l.self;
}
