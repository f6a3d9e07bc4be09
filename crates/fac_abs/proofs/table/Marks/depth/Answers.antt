use Rattle.std.proofs.Common.{sym, ap, ◌∙◌}
use Rattle.std.specs.Map.{keys_of, values_of}
use Rattle.fac_abs.specs.Marks.{mark_depth}
use Rattle.fac_abs.specs.SeenMarks.{MarksSeen, mark_of}
use Rattle.fac_abs.proofs.SeenLemmas.{mark_in, depth_at}
use Rattle.fac_abs.proofs.table.Marks.depth.Goals as goal

pub at-requires : goal.at-requires
at-requires c = mark_in c.self.inside.templates c.self.inside.frames (keys_of c.self.inside.nodes) c.self.inside.stack_nodes c.args.self.now c.self.view_is c.args.mark c.requires

pub returns : goal.returns
returns c = λ N. c.at.ensures.depth ∙ sym (depth_at c.self.inside.templates c.self.inside.frames N (keys_of c.self.inside.nodes) c.self.inside.stack_nodes (values_of c.self.inside.nodes) c.args.mark c.self.invariant.1) ∙ ap (λ (M : MarksSeen). mark_depth (mark_of N M c.args.mark)) c.self.view_is
