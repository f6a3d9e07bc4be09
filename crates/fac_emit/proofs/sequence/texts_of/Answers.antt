use Rattle.std.proofs.Common.{List, ℕ, ap, ◌∙◌}
use Rattle.fac_emit.specs.ProgramTexts.{with_texts, words_texts}
use Rattle.fac_emit.proofs.TextLemmas.{sequence_whole}
use Rattle.fac_emit.proofs.sequence.texts_of.Goals as goal

pub returns : goal.returns
returns c =
    let C = c.args.closed.now in
    let words = c.in_ok-add_words.ensures ∙ ap (λ (texts : List (List ℕ)). with_texts texts (words_texts C C.program.words)) c.new-texts.ensures in
    sequence_whole C _ _ _ _ words c.in_ok-add_templates.ensures c.in_ok-add_arrays.ensures c.in_ok-add_classes.ensures
