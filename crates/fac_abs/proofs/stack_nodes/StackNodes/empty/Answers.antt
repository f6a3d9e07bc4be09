use Rattle.std.proofs.Common.{List, ℕ, [], subst, arith}
use Rattle.fac_abs.specs.inner.Keeping.{IsStackWith}
use Rattle.fac_abs.proofs.StackLemmas.{stacks_length, stack_zero}
use Rattle.fac_abs.proofs.stack_nodes.StackNodes.empty.Goals as goal

pub returns : goal.returns
returns c =
    let nodes = c.self.inside.stack_nodes.items in
    subst (λ (ss : List (List ℕ)). IsStackWith ss 0 []) c.self.view_is (record { within = omega (arith, stacks_length nodes); marks_are = stack_zero nodes })
