use Rattle.std.proofs.Common.{subst}
use Rattle.std.specs.Map.{keys_of}
use Rattle.fac_abs.specs.SeenMarks.{MarksSeen}
use Rattle.fac_abs.specs.MarkPromises.{HasTopWhere}
use Rattle.fac_abs.proofs.SeenLemmas.{stack_in, low_in, top_where}
use Rattle.fac_abs.proofs.table.Marks.pop.Goals as goal

pub pop-requires : goal.pop-requires
pop-requires c = stack_in c.self.inside.templates c.self.inside.frames (keys_of c.self.inside.nodes) c.self.inside.stack_nodes c.args.self.now c.self.view_is c.args.stack c.requires

pub returns : goal.returns
returns c =
    let ns = keys_of c.self.inside.nodes in
    let ss = c.self.inside.stack_nodes in
    let low = low_in c.self.inside.templates c.self.inside.frames ns ss c.args.self.now c.self.view_is c.args.stack c.requires in
    subst (λ (M : MarksSeen). HasTopWhere M c.args.stack c.pop.result) c.self.view_is (top_where c.self.inside.templates c.self.inside.frames ns ss c.args.stack c.pop.result low c.pop.ensures)
