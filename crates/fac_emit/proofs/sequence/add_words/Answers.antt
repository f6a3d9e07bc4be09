use Rattle.std.proofs.Common.{◌+◌, drop, ap}
use Rattle.fac_emit.specs.ProgramTexts.{word_texts, words_texts}
use Rattle.fac_emit.proofs.EmitLemmas.{next_of}
use Rattle.fac_emit.proofs.TextLemmas.{texts_step}
use Rattle.fac_emit.proofs.sequence.add_words.Goals as goal

pub loop-word-preserved : goal.loop-word-preserved
loop-word-preserved c =
    let at = c.loop-word in
    let items = c.as_slice-word-items in
    let all = c.args.closed.now.program.words in
    let i = at.word-index in
    texts_step _ at.texts _ (words_texts c.args.closed.now (drop i all)) (word_texts c.args.closed.now c.word-item.result) (words_texts c.args.closed.now (drop (i + 1) all)) at.invariant (ap (words_texts c.args.closed.now) (next_of all i c.word-item.result items.result.now items.ensures c.loop-word-test.true c.word-item.is)) c.in_ok-add_word.ensures
