use Rattle.std.proofs.Common.{◌∙◌}
use Rattle.fac_lang.specs.Operations.{operation_does}
use Rattle.fac_lang.specs.declared.primitive_table.Operation.TheVariants as operation
use Rattle.fac_abs.specs.SeenMarks.{stack_of}
use Rattle.fac_check.proofs.PrimitiveDoings.{operation_walked, other_kind, other_walked}
use Rattle.fac_check.proofs.WordItems.{ok_maps}
use Rattle.fac_check.proofs.doing.primitive.Goals as goal

pub returns-in-Shuffle-clause-does : goal.returns-in-Shuffle-clause-does
unfolding operation_does
returns-in-Shuffle-clause-does c =
    ok_maps c.shuffle.result (λ r does p e ins outs N words b. does N words b ∙ operation_walked c.args.number (operation.Shuffle c.in-Shuffle.takes c.in-Shuffle.leaves) p b (stack_of N c.args.marks.now c.args.stack) c.in-Shuffle.ensures e) c.shuffle.ensures.does

pub returns-in_default : goal.returns-in_default
returns-in_default c =
    record {
      grows = c.by_height.ensures.grows;
      there = c.by_height.ensures.there;
      does = ok_maps c.by_height.result (λ r does p e ins outs N words b. does N words b ∙ other_walked c.args.number c.operation_of.result p c.args.height.ins c.args.height.outs b (stack_of N c.args.marks.now c.args.stack) c.operation_of.ensures e ins outs (other_kind c.operation_of.result c.in_default.not-Shuffle c.in_default.not-Storing)) c.by_height.ensures.does;
    }
