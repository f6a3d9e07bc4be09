use Rattle.std.proofs.Common.{◌≡◌, drop}
use Rattle.fac_emit.specs.ProgramTexts.{with_texts, words_texts}
use Rattle.fac_emit.proofs.sequence.add_words.Given as goal

abbrev pub invariant-loop-word : goal.invariant-loop-word
invariant-loop-word l = with_texts l.initial.texts (words_texts l.closed l.closed.program.words) ≡ with_texts l.texts (words_texts l.closed (drop l.word-index l.closed.program.words))
