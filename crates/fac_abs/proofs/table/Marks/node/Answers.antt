use Rattle.std.proofs.Common.{subst}
use Rattle.std.specs.Map.{keys_of}
use Rattle.fac_abs.specs.SeenMarks.{MarksSeen}
use Rattle.fac_abs.specs.MarkPromises.{IsNodeOf}
use Rattle.fac_abs.proofs.SeenLemmas.{mark_in, node_at}
use Rattle.fac_abs.proofs.table.Marks.node.Goals as goal

pub at-requires : goal.at-requires
at-requires c = mark_in c.self.inside.templates c.self.inside.frames (keys_of c.self.inside.nodes) c.self.inside.stack_nodes c.args.self.now c.self.view_is c.args.mark c.requires

pub returns : goal.returns
returns c =
    let ns = keys_of c.self.inside.nodes in
    let ss = c.self.inside.stack_nodes in
    let within = mark_in c.self.inside.templates c.self.inside.frames ns ss c.args.self.now c.self.view_is c.args.mark c.requires in
    subst (λ (M : MarksSeen). IsNodeOf M c.args.mark c.at.result.0) c.self.view_is (node_at c.self.inside.templates c.self.inside.frames ns ss c.args.mark c.self.invariant.0 within c.at.result.0 c.at.ensures.node)
