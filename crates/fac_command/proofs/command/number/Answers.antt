use Rattle.std.proofs.Common.{◌<◌, arith}
use Rattle.fac_command.proofs.CommandLemmas.{digits_fit}
use Rattle.fac_command.proofs.command.number.Goals as goal

pub overflow_mul-number : goal.overflow_mul-number
overflow_mul-number c =
    let fits = digits_fit c.loop-digit.number c.loop-digit.digit-index _ 0 c.loop-digit.invariant.small c.loop-digit-test.true c.requires (omega arith) in omega (arith, fits)

pub overflow_add-number : goal.overflow_add-number
overflow_add-number c =
    let few : c.from.result < 10 = omega (arith, c.from.ensures, c.if-digit-gt57.false) in
    let fits = digits_fit c.loop-digit.number c.loop-digit.digit-index _ c.from.result c.loop-digit.invariant.small c.loop-digit-test.true c.requires few in omega (arith, fits)
