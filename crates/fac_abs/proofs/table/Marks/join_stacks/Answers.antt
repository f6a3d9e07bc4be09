-- As for `push`. The goals of each function are a module of its own, so answers of one shape are written for each.
use Rattle.std.proofs.Common.{IfOk, subst}
use Rattle.std.specs.Map.{keys_of}
use Rattle.fac_abs.specs.SeenMarks.{MarksSeen, Grows}
use Rattle.fac_abs.specs.MarkPromises.{IsJoinedWhere}
use Rattle.fac_abs.proofs.SeenLemmas.{seen, stack_in, low_in, grows_stack_nodes}
use Rattle.fac_abs.proofs.MoveLemmas.{joined_by}
use Rattle.fac_abs.proofs.table.Marks.join_stacks.Goals as goal

pub join-requires-clause-first : goal.join-requires-clause-first
join-requires-clause-first c = stack_in c.self.inside.templates c.self.inside.frames (keys_of c.self.inside.nodes) c.self.inside.stack_nodes c.args.self.now c.self.view_is c.args.a c.requires.first

pub join-requires-clause-second : goal.join-requires-clause-second
join-requires-clause-second c = stack_in c.self.inside.templates c.self.inside.frames (keys_of c.self.inside.nodes) c.self.inside.stack_nodes c.args.self.now c.self.view_is c.args.b c.requires.second

pub returns-clause-grows : goal.returns-clause-grows
returns-clause-grows c =
    let ns = keys_of c.self.inside.nodes in
    let ts = c.join.new.self in
    subst (λ (M : MarksSeen). Grows M (seen c.self.inside.templates c.self.inside.frames ns ts)) c.self.view_is (grows_stack_nodes c.self.inside.templates c.self.inside.frames ns c.self.inside.stack_nodes ts c.join.ensures.keeps)

pub returns-clause-made : goal.returns-clause-made
returns-clause-made c =
    let ns = keys_of c.self.inside.nodes in
    let ss = c.self.inside.stack_nodes in
    let ts = c.join.new.self in
    let low = low_in c.self.inside.templates c.self.inside.frames ns ss c.args.self.now c.self.view_is c.args.a c.requires.first in
    let lower = low_in c.self.inside.templates c.self.inside.frames ns ss c.args.self.now c.self.view_is c.args.b c.requires.second in
    subst (λ (M : MarksSeen). IfOk c.join.result (λ o. IsJoinedWhere M (seen c.self.inside.templates c.self.inside.frames ns ts) c.args.a c.args.b o)) c.self.view_is (joined_by c.self.inside.templates c.self.inside.frames ns ss ts c.args.a c.args.b c.first-first.ensures.table c.self.invariant.0 c.empty-apart.ensures.distinct low lower c.join.result c.join.ensures.made)
