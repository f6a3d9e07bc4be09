use Rattle.std.proofs.Common.{subst}
use Rattle.std.specs.Map.{keys_of}
use Rattle.fac_abs.specs.InTurn.{under}
use Rattle.fac_abs.specs.SeenMarks.{MarksSeen, stack_of}
use Rattle.fac_abs.specs.MarkPromises.{IsStackWhere}
use Rattle.fac_abs.proofs.SeenLemmas.{stack_in, low_in}
use Rattle.fac_abs.proofs.MoveLemmas.{below_where}
use Rattle.fac_abs.proofs.table.Marks.below.Goals as goal

pub under-requires : goal.under-requires
under-requires c = stack_in c.self.inside.templates c.self.inside.frames (keys_of c.self.inside.nodes) c.self.inside.stack_nodes c.args.self.now c.self.view_is c.args.stack c.requires

pub returns : goal.returns
returns c =
    let ns = keys_of c.self.inside.nodes in
    let ss = c.self.inside.stack_nodes in
    let low = low_in c.self.inside.templates c.self.inside.frames ns ss c.args.self.now c.self.view_is c.args.stack c.requires in
    subst (λ (M : MarksSeen). IsStackWhere M c.under.result (λ N. under c.args.count (stack_of N M c.args.stack))) c.self.view_is (below_where c.self.inside.templates c.self.inside.frames ns ss c.args.stack c.args.count c.under.result low c.under.ensures)
