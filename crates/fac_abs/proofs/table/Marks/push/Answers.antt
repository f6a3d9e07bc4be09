-- As for `join_stacks`. The goals of each function are a module of its own, so answers of one shape are written for each.
use Rattle.std.proofs.Common.{◌∷◌, IfOk, subst}
use Rattle.std.specs.Map.{keys_of}
use Rattle.fac_abs.specs.SeenMarks.{MarksSeen, mark_of, stack_of, Grows}
use Rattle.fac_abs.specs.MarkPromises.{IsStackOf}
use Rattle.fac_abs.proofs.SeenLemmas.{seen, mark_in, stack_in, low_in, grows_stack_nodes}
use Rattle.fac_abs.proofs.MoveLemmas.{push_by}
use Rattle.fac_abs.proofs.table.Marks.push.Goals as goal

pub push-requires : goal.push-requires
push-requires c = stack_in c.self.inside.templates c.self.inside.frames (keys_of c.self.inside.nodes) c.self.inside.stack_nodes c.args.self.now c.self.view_is c.args.stack c.requires.stack

pub returns-clause-grows : goal.returns-clause-grows
returns-clause-grows c =
    let ns = keys_of c.self.inside.nodes in
    let ts = c.push.new.self in
    subst (λ (M : MarksSeen). Grows M (seen c.self.inside.templates c.self.inside.frames ns ts)) c.self.view_is (grows_stack_nodes c.self.inside.templates c.self.inside.frames ns c.self.inside.stack_nodes ts c.push.ensures.keeps)

pub returns-clause-made : goal.returns-clause-made
returns-clause-made c =
    let ns = keys_of c.self.inside.nodes in
    let ss = c.self.inside.stack_nodes in
    let ts = c.push.new.self in
    let low = low_in c.self.inside.templates c.self.inside.frames ns ss c.args.self.now c.self.view_is c.args.stack c.requires.stack in
    let within = mark_in c.self.inside.templates c.self.inside.frames ns ss c.args.self.now c.self.view_is c.args.mark c.requires.mark in
    subst (λ (M : MarksSeen). IfOk c.push.result (λ r. IsStackOf (seen c.self.inside.templates c.self.inside.frames ns ts) r (λ N. mark_of N M c.args.mark ∷ stack_of N M c.args.stack))) c.self.view_is (push_by c.self.inside.templates c.self.inside.frames ns ss ts c.args.stack c.args.mark c.push.result c.push.ensures.made within low)
