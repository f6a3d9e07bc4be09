use Rattle.std.proofs.Common.{arith}
use Rattle.std.proofs.lemmas.Result.{err_from_is_err_and}
use Rattle.fac_spelling.proofs.TextLaws.{left_on, left_ends, left_done}
use Rattle.fac_spelling.proofs.characters.past_characters.Goals as goal
use Rattle.fac_spelling.specs.Texts.{characters}
use Rattle.fac_spelling.specs.inner.CharacterSteps.{rest_of}

pub returns-in_err-width-clause-exact : goal.returns-in_err-width-clause-exact
returns-in_err-width-clause-exact c =
    let p = err_from_is_err_and c.from_residual.result c.from_residual.ensures.1 in
    rw (p.1, p.2) (left_ends c.loop-room.room c.in_err-width.field-0.0 c.loop-room.rest.now (rest_of ((characters c.args.size c.args.size).read c.args.bytes.now)) (omega arith) c.in_err-width.ensures.exact c.loop-room.invariant)

pub overflow_sub-room : goal.overflow_sub-room
overflow_sub-room c = (left_on c.loop-room.room c.in_ok-width.width c.loop-room.rest.now c.in_ok-width.after.now (rest_of ((characters c.args.size c.args.size).read c.args.bytes.now)) (omega arith) c.in_ok-width.ensures.exact c.loop-room.invariant).0

pub loop-room-preserved : goal.loop-room-preserved
loop-room-preserved c = (left_on c.loop-room.room c.in_ok-width.width c.loop-room.rest.now c.in_ok-width.after.now (rest_of ((characters c.args.size c.args.size).read c.args.bytes.now)) (omega arith) c.in_ok-width.ensures.exact c.loop-room.invariant).2

pub loop-room-smaller : goal.loop-room-smaller
loop-room-smaller c =
    let s = left_on c.loop-room.room c.in_ok-width.width c.loop-room.rest.now c.in_ok-width.after.now (rest_of ((characters c.args.size c.args.size).read c.args.bytes.now)) (omega arith) c.in_ok-width.ensures.exact c.loop-room.invariant in
    omega (arith, s.0, s.1)

pub returns-clause-exact : goal.returns-clause-exact
returns-clause-exact c = left_done c.loop-room.room c.loop-room.rest.now (rest_of ((characters c.args.size c.args.size).read c.args.bytes.now)) (omega arith) c.loop-room.invariant
