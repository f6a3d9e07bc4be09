use Rattle.std.proofs.Common.{◌++◌, length, arith}
use Rattle.fac_spelling.proofs.WriteLoops.{next_fits, steps}
use Rattle.fac_bytes.proofs.part.write_each.Goals as goal
use Rattle.fac_spelling.specs.Formats.{each}

pub write-requires : goal.write-requires
write-requires g c = next_fits g.T.Writable.format c.args.values.now c.loop-value.value-index c.value-item.result c.loop-value.out (c.args.out.now ++ (each (length c.args.values.now) g.T.Writable.format).spell c.args.values.now) (omega arith) c.value-item.is c.loop-value.invariant

pub loop-value-preserved : goal.loop-value-preserved
loop-value-preserved g c = rw c.in_ok-write.ensures (steps g.T.Writable.format c.args.values.now c.loop-value.value-index c.value-item.result c.loop-value.out (c.args.out.now ++ (each (length c.args.values.now) g.T.Writable.format).spell c.args.values.now) (omega arith) c.value-item.is c.loop-value.invariant)
