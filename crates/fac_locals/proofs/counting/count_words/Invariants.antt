use Rattle.std.proofs.Common.{◌≡◌, drop}
use Rattle.fac_locals.specs.inner.Numbering.{words_behind}
use Rattle.fac_locals.proofs.counting.count_words.Given as goal

abbrev pub invariant-loop-word : goal.invariant-loop-word
invariant-loop-word l = words_behind l.counts 0 l.words ≡ words_behind l.counts l.behind (drop l.word-index l.words)
