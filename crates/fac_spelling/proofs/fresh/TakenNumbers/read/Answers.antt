use Rattle.fac_spelling.specs.Numbers.{greatest32}
use Rattle.fac_spelling.specs.TestedNumbers.{is_free}
use Rattle.fac_spelling.proofs.CountLaws.{reads_pass}
use Rattle.fac_spelling.proofs.fresh.TakenNumbers.read.Goals as goal

pub take-requires : goal.take-requires
take-requires c = reads_pass c.args.bytes.now (is_free c.args.self.now) 0 greatest32 c.in_ok-number.number c.in_ok-number.rest.now c.in_ok-number.ensures
