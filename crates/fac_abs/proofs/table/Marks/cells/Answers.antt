use Rattle.std.proofs.Common.{[], length, get_or, sym, ap, ◌∙◌}
use Rattle.std.proofs.Math.ListN.{length-map}
use Rattle.std.specs.Map.{keys_of}
use Rattle.fac_abs.specs.SeenMarks.{MarksSeen, mark_of, frame_of}
use Rattle.fac_abs.proofs.SeenLemmas.{seen, frame_in, frame_reads}
use Rattle.fac_abs.proofs.table.Marks.cells.Goals as goal

pub height-requires : goal.height-requires
height-requires c = frame_in c.self.inside.templates c.self.inside.frames (keys_of c.self.inside.nodes) c.self.inside.stack_nodes c.args.self.now c.self.view_is c.args.frame c.requires

pub returns : goal.returns
returns c = λ N.
    let M : MarksSeen = seen c.self.inside.templates c.self.inside.frames (keys_of c.self.inside.nodes) c.self.inside.stack_nodes in
    c.height.ensures ∙ sym (ap length (frame_reads N M c.args.frame) ∙ length-map (get_or c.self.inside.frames c.args.frame []) (mark_of N M)) ∙ ap (λ (L : MarksSeen). length (frame_of N L c.args.frame)) c.self.view_is
