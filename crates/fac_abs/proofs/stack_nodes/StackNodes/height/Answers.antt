use Rattle.std.proofs.Common.{arith}
use Rattle.fac_abs.proofs.StackLemmas.{height_read}
use Rattle.fac_abs.proofs.stack_nodes.StackNodes.height.Goals as goal

pub returns : goal.returns
returns c = height_read _ _ _ _ c.args.stack c.as_slice-stack_nodes.ensures.value c.self.view_is c.self.invariant.1 (omega arith) c.requires
