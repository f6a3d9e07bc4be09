use Rattle.std.proofs.Common.{arith, ap, length, rules}
use Rattle.fac_abs.proofs.StackLemmas.{low_height, stacks_length, pushed_tell, pushed_lie, pushed_keeps, pushed_is}
use Rattle.fac_abs.proofs.stack_nodes.StackNodes.push.Goals as goal

pub overflow_add-height : goal.overflow_add-height
overflow_add-height c =
    let low = low_height _ _ c.args.below c.self.view_is c.self.invariant.2 c.requires in
    let long = ap length c.self.view_is in
    omega (arith, low, long, stacks_length c.self.inside.stack_nodes.items, c.requires, c.height-height.ensures, c.self.invariant.0)

pub invariant_of-self-2 : goal.invariant_of-self-2
invariant_of-self-2 c = (omega arith, pushed_tell _ _ _ _ c.in_ok-push.ensures.items c.self.view_is c.self.invariant.1 (search rules), pushed_lie _ _ _ _ c.in_ok-push.ensures.items c.self.view_is c.self.invariant.2 c.requires)

pub returns-clause-keeps : goal.returns-clause-keeps
returns-clause-keeps c = pushed_keeps _ _ _ _ c.in_ok-push.ensures.items c.self.view_is

pub returns-clause-made : goal.returns-clause-made
returns-clause-made c = pushed_is _ _ _ _ c.in_ok-push.ensures.items c.self.view_is c.len-count.result (search rules)
