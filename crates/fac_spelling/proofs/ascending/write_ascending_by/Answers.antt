use Rattle.std.proofs.Common.{length}
use Rattle.fac_spelling.proofs.WriteLoops.{ascend_by_each}
use Rattle.fac_spelling.proofs.ascending.write_ascending_by.Goals as goal

pub write_each-requires : goal.write_each-requires
write_each-requires g c = ascend_by_each g.T.Spelled.format (length c.args.entries.now) 0 c.args.entries.now c.requires.1
