use Rattle.std.proofs.Common.{length}
use Rattle.fac_spelling.proofs.numbers.+read_wide.Given as goal

abbrev pub decreases-read_wide : goal.decreases-read_wide
decreases-read_wide l = length l.bytes.now
