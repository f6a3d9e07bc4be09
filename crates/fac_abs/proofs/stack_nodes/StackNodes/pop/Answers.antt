use Rattle.std.proofs.Common.{arith}
use Rattle.fac_abs.proofs.StackLemmas.{pop_read}
use Rattle.fac_abs.proofs.stack_nodes.StackNodes.pop.Goals as goal

pub returns : goal.returns
returns c = pop_read _ _ _ _ c.args.stack c.as_slice-stack_nodes.ensures.value c.self.view_is c.self.invariant.2 (omega arith) c.requires
