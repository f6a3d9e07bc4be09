use Rattle.std.proofs.Common.{length}
use Rattle.fac_spelling.proofs.fresh.+fresh_from.Given as goal

abbrev pub decreases-fresh_from : goal.decreases-fresh_from
decreases-fresh_from l = length l.bytes.now
