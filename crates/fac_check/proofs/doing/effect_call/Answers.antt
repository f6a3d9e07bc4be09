use Rattle.std.proofs.Common.{ap, ◌∙◌}
use Rattle.fac_abs.specs.SeenMarks.{stack_of}
use Rattle.fac_check.specs.Flow.{by_height}
use Rattle.fac_check.proofs.WordItems.{ok_maps}
use Rattle.fac_check.proofs.doing.effect_call.Goals as goal

pub returns-clause-does : goal.returns-clause-does
returns-clause-does c = ok_maps c.by_height.result (λ r does N words b. does N words b ∙ ap (λ n. by_height n c.args.height.outs b (stack_of N c.args.marks.now c.args.stack)) c.in_ok-ins.ensures) c.by_height.ensures.does
