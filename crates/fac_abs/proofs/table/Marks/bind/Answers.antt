-- As for `make`. The goals of each function are a module of its own, so answers of one shape are written for each.
use Rattle.std.proofs.Common.{◌∷◌, IfOk, subst}
use Rattle.std.specs.Map.{keys_of, values_of}
use Rattle.fac_abs.specs.SeenMarks.{MarksSeen, mark_of, frame_of, Grows}
use Rattle.fac_abs.specs.MarkPromises.{IsFrameOf}
use Rattle.fac_abs.proofs.SeenLemmas.{seen, mark_in, frame_in, cells_low, ordered_keeps, told_keeps, grows_frames, bound_by}
use Rattle.fac_abs.proofs.table.Marks.bind.Goals as goal

pub push-requires : goal.push-requires
push-requires c = frame_in c.self.inside.templates c.self.inside.frames (keys_of c.self.inside.nodes) c.self.inside.stack_nodes c.args.self.now c.self.view_is c.args.frame c.requires.frame

pub invariant_of-self : goal.invariant_of-self
invariant_of-self c =
    let ns = keys_of c.self.inside.nodes in
    (ordered_keeps c.self.inside.templates c.self.inside.frames c.push.new.self c.push.ensures.keeps ns c.self.invariant.0, told_keeps c.self.inside.templates c.self.inside.frames c.push.new.self c.push.ensures.keeps ns (values_of c.self.inside.nodes) c.self.invariant.0 c.self.invariant.1)

pub returns-clause-grows : goal.returns-clause-grows
returns-clause-grows c =
    let ns = keys_of c.self.inside.nodes in
    subst (λ (M : MarksSeen). Grows M (seen c.self.inside.templates c.push.new.self ns c.self.inside.stack_nodes)) c.self.view_is (grows_frames c.self.inside.templates c.self.inside.frames c.push.new.self c.push.ensures.keeps ns c.self.inside.stack_nodes c.self.invariant.0)

pub returns-clause-made : goal.returns-clause-made
returns-clause-made c =
    let ns = keys_of c.self.inside.nodes in
    let ss = c.self.inside.stack_nodes in
    let q = c.self.inside.templates in
    let fs = c.self.inside.frames in
    let low = cells_low q fs ns ss c.args.self.now c.self.view_is c.args.frame c.requires.frame in
    let within = mark_in q fs ns ss c.args.self.now c.self.view_is c.args.mark c.requires.mark in
    subst (λ (M : MarksSeen). IfOk c.push.result (λ r. IsFrameOf (seen q c.push.new.self ns ss) r (λ N. mark_of N M c.args.mark ∷ frame_of N M c.args.frame))) c.self.view_is (bound_by q fs c.push.new.self c.push.ensures.keeps ns ss c.args.frame c.args.mark c.self.invariant.0 c.push.result c.push.ensures.made within low)
