use Rattle.std.proofs.Common.{length, ap, ◌∙◌}
use Rattle.fac_abs.specs.SeenMarks.{stack_of}
use Rattle.fac_check.proofs.ClassDoings.{generic_there, next_by, next_none}
use Rattle.fac_base.specs.declared.height.Height.{Height}
use Rattle.fac_check.specs.Flow.{by_height}
use Rattle.fac_check.proofs.TakenPrograms.{word_taken}
use Rattle.fac_check.proofs.WordItems.{ok_maps}
use Rattle.fac_check.proofs.doing.next_after.Goals as goal

pub height_of-requires : goal.height_of-requires
height_of-requires c =
    let C = c.args.closed.now in
    let there = generic_there C.program c.args.method c.in-Some.generic.now c.in-Some.ensures in
    (C.program.top, length C.templates, word_taken C.program C.templates c.requires.program there.0 c.in-Some.generic.now there.1)

pub returns-in-Some-clause-does : goal.returns-in-Some-clause-does
returns-in-Some-clause-does c =
    let C = c.args.closed.now in
    ok_maps c.by_height.result
    (λ r does own P closes N words b.
    let ms = stack_of N c.args.marks.now c.args.stack in
    next_by P C.program C.templates closes own b ms c.args.method c.in-Some.generic.now _ c.in-Some.ensures (does N words b ∙ ap (λ (h : Height). by_height h.ins h.outs b ms) c.height_of.ensures))
    c.by_height.ensures.does

pub returns-in-None-clause-does : goal.returns-in-None-clause-does
returns-in-None-clause-does c = λ own P closes N words b.
    let C = c.args.closed.now in
    next_none P C.program C.templates closes own b (stack_of N c.args.marks.now c.args.stack) c.args.method c.in-None.ensures
