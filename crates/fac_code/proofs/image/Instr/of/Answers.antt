use Rattle.fac_code.specs.InstrRows.{makers}
use Rattle.fac_code.proofs.image.Instr.of.Goals as goal

pub returns-in-2 : goal.returns-in-2
unfolding makers
returns-in-2 c = rw c.in-2.is c.pushing.ensures
