use denote.Param.Send.{sendable}
use Rattle.fac_base.proofs.list.List.TheSendSync as lists
use Rattle.fac_base.proofs.memory.Memory.TheSendSync as memories
use Rattle.fac_trees.proofs.Crossings.{tree_send}
use Rattle.fac_tool.proofs.reading.read_beside.Goals as goal

pub join_mut-requires-send-A : goal.join_mut-requires-send-A
join_mut-requires-send-A g c κs within = search (sendable, lists.the_send, tree_send, memories.the_send) depth 20
