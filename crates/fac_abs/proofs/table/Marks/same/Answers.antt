use Rattle.std.proofs.Common.{ap, ◌∙◌}
use Rattle.std.specs.Map.{keys_of}
use Rattle.fac_abs.specs.Marks.{mark_eq}
use Rattle.fac_abs.specs.SeenMarks.{MarksSeen, mark_of}
use Rattle.fac_abs.proofs.SeenLemmas.{mark_in}
use Rattle.fac_abs.proofs.MoveLemmas.{same_numbers}
use Rattle.fac_abs.proofs.table.Marks.same.Goals as goal

pub returns : goal.returns
returns c =
    let ns = keys_of c.self.inside.nodes in
    let ss = c.self.inside.stack_nodes in
    let low = mark_in c.self.inside.templates c.self.inside.frames ns ss c.args.self.now c.self.view_is c.args.a c.requires.first in
    let lower = mark_in c.self.inside.templates c.self.inside.frames ns ss c.args.self.now c.self.view_is c.args.b c.requires.second in
    λ N. same_numbers c.self.inside.templates c.self.inside.frames N ns ss c.first-first.ensures.table c.self.invariant.0 c.empty-apart.ensures.distinct c.args.a c.args.b low lower ∙ ap (λ (M : MarksSeen). mark_eq (mark_of N M c.args.a) (mark_of N M c.args.b)) c.self.view_is
