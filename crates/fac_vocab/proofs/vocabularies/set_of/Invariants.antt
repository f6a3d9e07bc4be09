use Rattle.std.proofs.Common.{◌≡◌, [], drop, map}
use Rattle.fac_vocab.specs.inner.Rows.{with_vocabs}
use Rattle.fac_vocab.proofs.vocabularies.set_of.Given as goal

abbrev pub invariant-loop-text : goal.invariant-loop-text
invariant-loop-text l = with_vocabs [] (map (λ text. text.now) l.texts) ≡ with_vocabs l.set (map (λ text. text.now) (drop l.text-index l.texts))
