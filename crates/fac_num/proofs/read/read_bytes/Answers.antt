use Rattle.std.proofs.Common.{arith}
use Rattle.std.proofs.lemmas.Grind.{common_steps}
use Rattle.fac_num.proofs.Ranges.{minus_reads, plain_reads}
use Rattle.fac_num.proofs.read.read_bytes.Goals as goal

pub returns-then-text-eq45 : goal.returns-then-text-eq45
returns-then-text-eq45 c = minus_reads c.args.text.now 0 c.answered.result (grind arith) c.if-text-eq45.true (grind (arith, common_steps))

pub returns-else-text-eq45 : goal.returns-else-text-eq45
returns-else-text-eq45 c = plain_reads c.args.text.now 0 c.answered-else-text-eq45.result (grind arith) c.if-text-eq45.false (grind (arith, common_steps))
