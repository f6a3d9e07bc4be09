use Rattle.std.proofs.Common.{[], get_or}
use Rattle.fac_abs.proofs.StackLemmas.{below_some, below_empty, below_none}
use Rattle.fac_abs.proofs.stack_nodes.StackNodes.mark_below.Goals as goal

pub returns-in_default : goal.returns-in_default
returns-in_default c = below_none c.args.count (get_or c.args.self.now c.args.stack []) c.in_default.ensures

pub returns-in-Some-pop : goal.returns-in-Some-pop
returns-in-Some-pop c = below_some c.args.count (get_or c.args.self.now c.args.stack []) (get_or c.args.self.now c.in-Some.rest []) _ c.in-Some-pop.mark c.in-Some.ensures.1 c.in-Some-pop.ensures.1

pub returns-in-None : goal.returns-in-None
returns-in-None c = below_empty c.args.count (get_or c.args.self.now c.args.stack []) (get_or c.args.self.now c.in-Some.rest []) c.in-Some.ensures.1 c.in-None.ensures
