use Rattle.std.proofs.Common.{length, nat_eq, ◌&&◌, ap, ◌∙◌}
use Rattle.std.specs.Map.{keys_of}
use Rattle.fac_abs.specs.Marks.{cover_marks}
use Rattle.fac_abs.specs.SeenMarks.{MarksSeen, stack_of}
use Rattle.fac_abs.proofs.SeenLemmas.{stack_in, low_in}
use Rattle.fac_abs.proofs.MoveLemmas.{covers_are}
use Rattle.fac_abs.proofs.table.Marks.covers_stack.Goals as goal

pub covers-requires-clause-bound : goal.covers-requires-clause-bound
covers-requires-clause-bound c = stack_in c.self.inside.templates c.self.inside.frames (keys_of c.self.inside.nodes) c.self.inside.stack_nodes c.args.self.now c.self.view_is c.args.bound c.requires.bound

pub covers-requires-clause-got : goal.covers-requires-clause-got
covers-requires-clause-got c = stack_in c.self.inside.templates c.self.inside.frames (keys_of c.self.inside.nodes) c.self.inside.stack_nodes c.args.self.now c.self.view_is c.args.got c.requires.got

pub returns : goal.returns
returns c =
    let ns = keys_of c.self.inside.nodes in
    let ss = c.self.inside.stack_nodes in
    let low = low_in c.self.inside.templates c.self.inside.frames ns ss c.args.self.now c.self.view_is c.args.bound c.requires.bound in
    let lower = low_in c.self.inside.templates c.self.inside.frames ns ss c.args.self.now c.self.view_is c.args.got c.requires.got in
    λ N. c.covers.ensures ∙ covers_are c.self.inside.templates c.self.inside.frames N ns ss c.args.bound c.args.got c.first-first.ensures.table c.self.invariant.0 c.empty-apart.ensures.distinct low lower ∙ ap (λ (M : MarksSeen). nat_eq (length (stack_of N M c.args.bound)) (length (stack_of N M c.args.got)) && cover_marks (stack_of N M c.args.bound) (stack_of N M c.args.got)) c.self.view_is
