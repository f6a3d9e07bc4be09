use Rattle.std.proofs.Common.{arith}
use Rattle.fac_emit.proofs.SetLemmas.{no_kind}
use Rattle.fac_emit.proofs.tables.own_kind_of.Goals as goal

pub returns-else-class-len : goal.returns-else-class-len
returns-else-class-len c = no_kind 8 c.args.classes.now c.args.class (let test = c.if-class-len.false in let count = c.len.ensures in omega (arith, test, count))
