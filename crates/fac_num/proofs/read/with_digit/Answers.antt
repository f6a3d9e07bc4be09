use Rattle.fac_num.proofs.Capping.{capped_digit}
use Rattle.fac_num.proofs.read.with_digit.Goals as goal

pub returns : goal.returns
returns c =
    capped_digit c.args.base c.args.value c.args.digit c.from.result c.from-2.result c.saturating_mul.result c.saturating_add.result c.from.ensures c.from-2.ensures c.saturating_mul.ensures c.saturating_add.ensures
