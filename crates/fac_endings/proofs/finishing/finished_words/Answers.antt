use Rattle.fac_endings.proofs.FinishLemmas.{finishes_given, finishes_length, words_finished}
use Rattle.std.proofs.Common.{refl}
use Rattle.fac_endings.proofs.finishing.finished_words.Goals as goal

pub words_with-requires : goal.words_with-requires
words_with-requires c =
    let made = finishes_given c.args.drafts.items c.as_slice.result.now c.args.classes.now c.args.classes.now c.in_ok-finishes.finishes.items c.as_slice.ensures.value refl c.in_ok-finishes.ensures in
    finishes_length c.args.drafts.items c.args.classes.now c.args.drafts.items c.in_ok-finishes.finishes.items made

pub returns : goal.returns
returns c =
    let made = finishes_given c.args.drafts.items c.as_slice.result.now c.args.classes.now c.args.classes.now c.in_ok-finishes.finishes.items c.as_slice.ensures.value refl c.in_ok-finishes.ensures in
    words_finished c.args.drafts.items c.args.classes.now c.in_ok-finishes.finishes.items c.words_with.result made c.words_with.ensures
