use Rattle.std.proofs.Common.{◌∙◌, subst}
use Rattle.fac_lang.specs.Operations.{operation_does}
use Rattle.fac_lang.specs.Primitives.{IsOperationOf}
use Rattle.fac_lang.specs.declared.primitive_table.Operation.TheVariants as operation
use Rattle.fac_lang.specs.declared.primitive_table.Storing.{Storing}
use Rattle.fac_lang.specs.declared.primitive_table.Storing.TheVariants as storing
use Rattle.fac_abs.specs.SeenMarks.{stack_of}
use Rattle.fac_check.proofs.PrimitiveDoings.{operation_walked, other_storing, other_walked}
use Rattle.fac_check.proofs.WordItems.{ok_maps}
use Rattle.fac_check.proofs.doing.storing.Goals as goal

pub returns-in-Curry-clause-does : goal.returns-in-Curry-clause-does
unfolding operation_does
returns-in-Curry-clause-does c =
    ok_maps c.curry.result (λ r does p e ins outs N words b. does N words b ∙ operation_walked c.args.number (operation.Storing storing.Curry) p b (stack_of N c.args.marks.now c.args.stack) (subst (λ (s : Storing). IsOperationOf c.args.number (operation.Storing s)) c.in-Curry.is c.requires.operation) e) c.curry.ensures.does

pub returns-in-Compose-clause-does : goal.returns-in-Compose-clause-does
unfolding operation_does
returns-in-Compose-clause-does c =
    ok_maps c.compose.result (λ r does p e ins outs N words b. does N words b ∙ operation_walked c.args.number (operation.Storing storing.Compose) p b (stack_of N c.args.marks.now c.args.stack) (subst (λ (s : Storing). IsOperationOf c.args.number (operation.Storing s)) c.in-Compose.is c.requires.operation) e) c.compose.ensures.does

pub returns-in_default-clause-does : goal.returns-in_default-clause-does
returns-in_default-clause-does c =
    ok_maps c.by_height.result (λ r does p e ins outs N words b. does N words b ∙ other_walked c.args.number (operation.Storing c.args.operation) p c.args.height.ins c.args.height.outs b (stack_of N c.args.marks.now c.args.stack) c.requires.operation e ins outs (other_storing c.args.operation c.in_default.not-Curry c.in_default.not-Compose)) c.by_height.ensures.does
