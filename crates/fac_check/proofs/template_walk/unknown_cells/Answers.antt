use Rattle.std.proofs.Common.{◌≡◌, ◌+◌, suc, ◌∷◌, [], ap, ◌∙◌, arith}
use Rattle.fac_lang.specs.Phrases.{any}
use Rattle.fac_abs.specs.Marks.{unknowns}
use Rattle.fac_abs.specs.SeenMarks.{frame_of}
use Rattle.fac_abs.proofs.SeenLemmas.{grows_trans}
use Rattle.fac_check.proofs.template_walk.unknown_cells.Goals as goal

pub loop-preserved : goal.loop-preserved
loop-preserved c =
    let i = c.loop.invariant in
    let more : suc c.loop.counter ≡ c.loop.counter + 1 = omega arith in
    record {
      grows = grows_trans _ _ _ i.grows c.in_ok-frame.ensures.grows;
      made = record {
        valid = c.in_ok-frame.ensures.made.valid;
        is = λ N. c.in_ok-frame.ensures.made.is N ∙ ap (λ m. m ∷ frame_of N c.loop.marks c.loop.frame) (c.unknown-mark.ensures.any.is N) ∙ ap (λ fs. any ∷ fs) (i.made.is N) ∙ ap (λ n. unknowns n []) more;
      };
    }
