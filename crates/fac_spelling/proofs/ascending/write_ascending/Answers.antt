use Rattle.std.proofs.Common.{length}
use Rattle.fac_spelling.proofs.WriteLoops.{ascend_each}
use Rattle.fac_spelling.proofs.ascending.write_ascending.Goals as goal

pub write_each-requires : goal.write_each-requires
write_each-requires c = ascend_each (length c.args.values.now) 0 c.args.values.now c.requires.1
