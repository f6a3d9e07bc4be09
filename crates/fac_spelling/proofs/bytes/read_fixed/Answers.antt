use Rattle.std.proofs.Common.{arith}
use Rattle.std.proofs.lemmas.Result.{err_from_is_err_and}
use Rattle.fac_spelling.specs.Bytes.{fixed}
use Rattle.fac_spelling.specs.inner.CharacterSteps.{rest_of}
use Rattle.fac_spelling.proofs.ByteLaws.{fixed_on, fixed_ends, fixed_fails, fixed_gives}
use Rattle.fac_spelling.proofs.bytes.read_fixed.Goals as goal

pub returns-in_err-after-clause-exact : goal.returns-in_err-after-clause-exact
returns-in_err-after-clause-exact c =
    let p = err_from_is_err_and c.from_residual.result c.from_residual.ensures.1 in
    rw (p.1, p.2) (fixed_fails c.in_err-after.field-0.0 c.args.expected.now c.args.bytes.now
    (fixed_ends c.in_err-after.field-0.0 c.args.expected.now c.loop-byte.byte-index c.loop-byte.rest.now (rest_of ((fixed c.args.expected.now).read c.args.bytes.now)) (omega arith) c.in_err-after.ensures.exact c.loop-byte.invariant))

pub loop-byte-preserved : goal.loop-byte-preserved
loop-byte-preserved c = fixed_on c.args.expected.now c.loop-byte.byte-index c.in_ok-after.field-0-0 c.loop-byte.rest.now c.in_ok-after.after.now (rest_of ((fixed c.args.expected.now).read c.args.bytes.now)) (omega arith) c.in_ok-after.ensures.exact c.loop-byte.invariant

pub returns-clause-exact : goal.returns-clause-exact
returns-clause-exact c = fixed_gives c.args.expected.now c.args.bytes.now c.loop-byte.rest.now c.loop-byte.byte-index (omega arith) c.loop-byte.invariant
