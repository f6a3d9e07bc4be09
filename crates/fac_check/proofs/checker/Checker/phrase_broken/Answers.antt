use Rattle.std.proofs.Common.{◌∙◌, sym}
use Rattle.fac_check.proofs.WordItems.{ok_maps}
use Rattle.fac_check.proofs.VerdictLemmas.{inline_is}
use Rattle.fac_check.proofs.checker.Checker.phrase_broken.Goals as goal

pub returns-then-word : goal.returns-then-word
returns-then-word c =
    ok_maps c.inline_broken.result
    (λ b broken P closes whole d t at word text.
    inline_is P c.args.number d c.args.self.now.closed.now.start t b (λ e. c.if-number-closed.false (e ∙ sym closes.top)) (sym word.inline ∙ c.if-word.true) (broken P closes whole d t at word text))
    c.inline_broken.ensures
