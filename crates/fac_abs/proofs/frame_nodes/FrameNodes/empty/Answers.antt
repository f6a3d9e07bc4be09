use Rattle.std.proofs.Common.{List, ℕ, [], subst, arith}
use Rattle.indexmap.specs.IndexMap.{keys}
use Rattle.fac_abs.specs.inner.Framing.{AreDistinct}
use Rattle.fac_abs.specs.inner.Keeping.{IsStackWith}
use Rattle.fac_abs.proofs.FrameLemmas.{frames_apart}
use Rattle.fac_abs.proofs.StackLemmas.{stacks_length, stack_zero}
use Rattle.fac_abs.proofs.frame_nodes.FrameNodes.empty.Goals as goal

pub returns-clause-empty : goal.returns-clause-empty
returns-clause-empty c =
    let nodes = keys c.self.inside.nodes in
    subst (λ (ss : List (List ℕ)). IsStackWith ss 0 []) c.self.view_is (record { within = omega (arith, stacks_length nodes); marks_are = stack_zero nodes })

pub returns-clause-distinct : goal.returns-clause-distinct
returns-clause-distinct c = subst (λ (ss : List (List ℕ)). AreDistinct ss) c.self.view_is (frames_apart (keys c.self.inside.nodes) c.self.invariant.1 c.self.invariant.2 c.self.invariant.3)
