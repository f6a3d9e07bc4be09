use Rattle.std.proofs.Common.{◌∙◌}
use Rattle.fac_check.proofs.WordItems.{ok_maps}
use Rattle.fac_check.proofs.VerdictLemmas.{row_word_is, expanded_is, row_mark_is}
use Rattle.fac_check.proofs.checker.Checker.inline_broken.Goals as goal

pub returns-in-Some : goal.returns-in-Some
returns-in-Some c =
    ok_maps c.row_broken.result
    (λ b broken P closes whole d t at word text. row_word_is P c.args.number d t b (row_mark_is P c.args.number d c.args.word.now word ∙ c.in-Some.ensures.0) (broken P closes whole d t at word text))
    c.row_broken.ensures

pub returns-in-None : goal.returns-in-None
returns-in-None c = λ P closes whole d t at word text.
    expanded_is P c.args.number d t (row_mark_is P c.args.number d c.args.word.now word ∙ c.in-None.ensures)
