use Rattle.std.proofs.Common.{ℕ, [], get_or, ap, ◌∙◌, arith}
use Rattle.indexmap.specs.IndexMap.{keys}
use Rattle.fac_abs.proofs.FrameLemmas.{frame_pop, frame_zero}
use Rattle.fac_abs.proofs.frame_nodes.FrameNodes.pop.Goals as goal

pub returns-then-frame-eq0 : goal.returns-then-frame-eq0
returns-then-frame-eq0 c = ap (λ (k : ℕ). get_or c.args.self.now k []) c.if-frame-eq0.true ∙ frame_zero (keys c.self.inside.nodes) c.args.self.now c.self.view_is

pub returns : goal.returns
returns c = frame_pop c.self.inside.nodes.entries c.args.self.now c.self.view_is c.args.frame c.in-Some.node.now tt c.in-Some.ensures.entry c.self.invariant.2 (omega arith) c.requires
