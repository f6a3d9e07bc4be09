use Rattle.std.proofs.Common.{arith}
use Rattle.fac_classes.proofs.OwnerLemmas.{object_has}
use Rattle.fac_classes.proofs.built_ins.built_in_has.Goals as goal

pub returns : goal.returns
returns c = object_has c.args.classes.now c.args.owners.now c.args.number c.args.kind c.requires (omega (arith, c.if-number-lt8.false, c.if-number-eq8.false, c.if-number-eq9.false, c.if-number-eq10.false))
