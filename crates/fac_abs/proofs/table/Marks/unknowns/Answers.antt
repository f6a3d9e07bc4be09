-- As for `shuffle`. The goals of each function are a module of its own, so answers of one shape are written for each.
use Rattle.std.proofs.Common.{IfOk, subst}
use Rattle.std.specs.Map.{keys_of}
use Rattle.fac_abs.specs.Marks.{unknowns}
use Rattle.fac_abs.specs.SeenMarks.{MarksSeen, stack_of, Grows}
use Rattle.fac_abs.specs.MarkPromises.{IsStackOf}
use Rattle.fac_abs.proofs.SeenLemmas.{seen, stack_in, low_in, grows_stack_nodes}
use Rattle.fac_abs.proofs.MoveLemmas.{unknowns_by}
use Rattle.fac_abs.proofs.table.Marks.unknowns.Goals as goal

pub zeros-requires : goal.zeros-requires
zeros-requires c = stack_in c.self.inside.templates c.self.inside.frames (keys_of c.self.inside.nodes) c.self.inside.stack_nodes c.args.self.now c.self.view_is c.args.stack c.requires

pub returns-clause-grows : goal.returns-clause-grows
returns-clause-grows c =
    let ns = keys_of c.self.inside.nodes in
    let ts = c.zeros.new.self in
    subst (λ (M : MarksSeen). Grows M (seen c.self.inside.templates c.self.inside.frames ns ts)) c.self.view_is (grows_stack_nodes c.self.inside.templates c.self.inside.frames ns c.self.inside.stack_nodes ts c.zeros.ensures.keeps)

pub returns-clause-made : goal.returns-clause-made
returns-clause-made c =
    let ns = keys_of c.self.inside.nodes in
    let ss = c.self.inside.stack_nodes in
    let ts = c.zeros.new.self in
    let low = low_in c.self.inside.templates c.self.inside.frames ns ss c.args.self.now c.self.view_is c.args.stack c.requires in
    subst (λ (M : MarksSeen). IfOk c.zeros.result (λ r. IsStackOf (seen c.self.inside.templates c.self.inside.frames ns ts) r (λ N. unknowns c.args.count (stack_of N M c.args.stack)))) c.self.view_is (unknowns_by c.self.inside.templates c.self.inside.frames ns ss ts c.args.stack c.args.count c.zeros.result c.zeros.ensures.made c.first-first.ensures.table c.self.invariant.0 low)
