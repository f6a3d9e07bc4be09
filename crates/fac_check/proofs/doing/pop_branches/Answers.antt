use Rattle.std.proofs.Common.{◌∙◌, ap, ◌∷◌}
use Rattle.fac_abs.specs.SeenMarks.{mark_of}
use Rattle.fac_check.proofs.doing.pop_branches.Goals as goal

pub returns : goal.returns
returns c =
    let two = c.in_ok-first.ensures in
    let one = c.in_ok-rest.ensures in
    let M = c.args.marks.now in
    (two.0, two.1, one.rest, λ N. (mark_of N M c.in_ok-rest.field-0-0, two.3 N ∙ ap (λ q. mark_of N M c.in_ok-first.second ∷ mark_of N M c.in_ok-first.first ∷ q) (one.is N)))
