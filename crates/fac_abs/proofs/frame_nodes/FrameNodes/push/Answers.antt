use Rattle.std.proofs.Common.{◌+◌, arith, ap, length, rules}
use Rattle.indexmap.specs.IndexMap.{keys}
use Rattle.fac_abs.specs.declared.stack_nodes.StackNode.{StackNode}
use Rattle.fac_abs.proofs.FrameLemmas.{told_by, lie_by, apart_by, keeps_by, numbered_is, number_short}
use Rattle.fac_abs.proofs.StackLemmas.{low_height, stacks_length}
use Rattle.fac_abs.proofs.frame_nodes.FrameNodes.push.Goals as goal

pub overflow_add-node : goal.overflow_add-node
overflow_add-node c =
    let low = low_height _ _ c.args.below c.self.view_is c.self.invariant.2 c.requires in
    let long = ap length c.self.view_is in
    omega (arith, low, long, stacks_length (keys c.self.inside.nodes), c.requires, c.height-height.ensures, c.self.invariant.0)

pub overflow_add-result : goal.overflow_add-result
overflow_add-result c =
    let short = number_short (keys c.self.inside.nodes) (keys c.number.new.nodes) (record { mark = c.args.mark; below = c.args.below; height = c.height-height.result + 1 }) c.args.self.now c.self.view_is c.in_ok-place.place c.in_ok-place.ensures.found in
    omega (arith, short, c.number.ensures.short)

pub invariant_of-self-2 : goal.invariant_of-self-2
invariant_of-self-2 c =
    let ks = keys c.self.inside.nodes in
    let after = keys c.number.new.nodes in
    let node : StackNode = record { mark = c.args.mark; below = c.args.below; height = c.height-height.result + 1 } in
    (c.number.ensures.short, told_by ks after node c.args.self.now c.self.view_is c.self.invariant.1 (search rules) c.number.result c.number.ensures.found c.number.ensures.err, lie_by ks after node c.args.self.now c.self.view_is c.self.invariant.2 c.requires c.number.result c.number.ensures.found c.number.ensures.err, apart_by ks after node c.args.self.now c.self.view_is c.self.invariant.3 c.number.result c.number.ensures.found c.number.ensures.err)

pub returns-clause-keeps : goal.returns-clause-keeps
returns-clause-keeps c =
    let node : StackNode = record { mark = c.args.mark; below = c.args.below; height = c.height-height.result + 1 } in
    keeps_by (keys c.self.inside.nodes) (keys c.number.new.nodes) node c.args.self.now c.self.view_is c.number.result c.number.ensures.found c.number.ensures.err

pub returns-clause-made : goal.returns-clause-made
returns-clause-made c =
    let node : StackNode = record { mark = c.args.mark; below = c.args.below; height = c.height-height.result + 1 } in
    numbered_is (keys c.self.inside.nodes) (keys c.number.new.nodes) node c.args.self.now c.self.view_is c.self.invariant.2 c.in_ok-place.place c.in_ok-place.ensures.found
