use Rattle.std.proofs.Common.{◌+◌, length, arith}
use Rattle.fac_spelling.specs.Formats.{each}
use Rattle.fac_bytes.proofs.Counted.{count_fits, counts_on}
use Rattle.fac_bytes.proofs.counting.count_each.Goals as goal

pub count_part-requires : goal.count_part-requires
count_part-requires g c = count_fits g.T.Writable.format c.args.parts.now c.loop-part.part-index c.part-item.result c.loop-part.count (c.args.count.now + length ((each (length c.args.parts.now) g.T.Writable.format).spell c.args.parts.now)) (omega arith) c.part-item.is c.loop-part.invariant

pub loop-part-preserved : goal.loop-part-preserved
loop-part-preserved g c = rw c.in_ok-count_part.ensures (counts_on g.T.Writable.format c.args.parts.now c.loop-part.part-index c.part-item.result c.loop-part.count (c.args.count.now + length ((each (length c.args.parts.now) g.T.Writable.format).spell c.args.parts.now)) (omega arith) c.part-item.is c.loop-part.invariant)
