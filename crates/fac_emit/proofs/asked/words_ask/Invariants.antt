use Rattle.std.proofs.Common.{◌≡◌, drop}
use Rattle.std.specs.List.{list_any}
use Rattle.fac_emit.specs.Heights.{word_asks}
use Rattle.fac_emit.proofs.asked.words_ask.Given as goal

abbrev pub invariant-loop-word : goal.invariant-loop-word
invariant-loop-word l = list_any word_asks l.words ≡ list_any word_asks (drop l.word-index l.words)
