-- As for `unknowns`. The goals of each function are a module of its own, so answers of one shape are written for each.
use Rattle.std.proofs.Common.{IfOk, subst}
use Rattle.std.specs.Map.{keys_of}
use Rattle.fac_lang.specs.Phrases.{any}
use Rattle.fac_abs.specs.InTurn.{moved}
use Rattle.fac_abs.specs.SeenMarks.{MarksSeen, stack_of, Grows}
use Rattle.fac_abs.specs.MarkPromises.{IsStackWhere}
use Rattle.fac_abs.proofs.SeenLemmas.{seen, stack_in, low_in, grows_stack_nodes}
use Rattle.fac_abs.proofs.MoveLemmas.{shuffle_by}
use Rattle.fac_abs.proofs.table.Marks.shuffle.Goals as goal

pub shuffle-requires : goal.shuffle-requires
shuffle-requires c = stack_in c.self.inside.templates c.self.inside.frames (keys_of c.self.inside.nodes) c.self.inside.stack_nodes c.args.self.now c.self.view_is c.args.stack c.requires

pub returns-clause-grows : goal.returns-clause-grows
returns-clause-grows c =
    let ns = keys_of c.self.inside.nodes in
    let ts = c.shuffle.new.self in
    subst (λ (M : MarksSeen). Grows M (seen c.self.inside.templates c.self.inside.frames ns ts)) c.self.view_is (grows_stack_nodes c.self.inside.templates c.self.inside.frames ns c.self.inside.stack_nodes ts c.shuffle.ensures.keeps)

pub returns-clause-made : goal.returns-clause-made
returns-clause-made c =
    let ns = keys_of c.self.inside.nodes in
    let ss = c.self.inside.stack_nodes in
    let ts = c.shuffle.new.self in
    let low = low_in c.self.inside.templates c.self.inside.frames ns ss c.args.self.now c.self.view_is c.args.stack c.requires in
    subst (λ (M : MarksSeen). IfOk c.shuffle.result (λ o. IsStackWhere (seen c.self.inside.templates c.self.inside.frames ns ts) o (λ N. moved any c.args.takes c.args.leaves.now (stack_of N M c.args.stack)))) c.self.view_is (shuffle_by c.self.inside.templates c.self.inside.frames ns ss ts c.args.stack c.args.takes c.args.leaves.now c.shuffle.result c.shuffle.ensures.made c.first-first.ensures.table c.self.invariant.0 low)
