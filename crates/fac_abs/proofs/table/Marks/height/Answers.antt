use Rattle.std.proofs.Common.{length, sym, ap, ◌∙◌}
use Rattle.std.specs.Map.{keys_of}
use Rattle.fac_abs.specs.SeenMarks.{MarksSeen, stack_of}
use Rattle.fac_abs.proofs.SeenLemmas.{stack_in}
use Rattle.fac_abs.proofs.MoveLemmas.{height_is}
use Rattle.fac_abs.proofs.table.Marks.height.Goals as goal

pub height-requires : goal.height-requires
height-requires c = stack_in c.self.inside.templates c.self.inside.frames (keys_of c.self.inside.nodes) c.self.inside.stack_nodes c.args.self.now c.self.view_is c.args.stack c.requires

pub returns : goal.returns
returns c = λ N. c.height.ensures ∙ sym (height_is c.self.inside.templates c.self.inside.frames N (keys_of c.self.inside.nodes) c.self.inside.stack_nodes c.args.stack) ∙ ap (λ (M : MarksSeen). length (stack_of N M c.args.stack)) c.self.view_is
