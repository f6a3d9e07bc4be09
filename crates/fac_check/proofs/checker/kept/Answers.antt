use Rattle.std.proofs.Common.{◌∙◌, ap, sym}
use Rattle.fac_abs.specs.SeenMarks.{base_seen}
use Rattle.fac_check.specs.declared.walker.Walked.TheVariants.{Found}
use Rattle.fac_abs.specs.RowVariables.{effect_leaving}
use Rattle.fac_check.specs.Verdicts.{end_of, kept_word}
use Rattle.fac_check.specs.inner.Walking.{walked_seen}
use Rattle.fac_check.proofs.checker.kept.Goals as goal

pub returns-in-On : goal.returns-in-On
returns-in-On c = λ P N.
    c.kept_outputs.ensures P N ∙ ap (λ W. end_of P (walked_seen N c.args.marks.now W) (kept_word P (effect_leaving c.args.word.now.effect) (base_seen N c.args.row) c.args.word.now.place)) (sym (c.in-Found.is ∙ ap (λ A. Found A c.in-Found.field-1) c.in-On.is))
