use Rattle.std.proofs.Common.{◌∙◌}
use Rattle.fac_expand.proofs.DirectGroups.{clash}
use Rattle.fac_expand.proofs.tails.is_needed.Goals as goal

pub returns-then-not-is_leaving : goal.returns-then-not-is_leaving
returns-then-not-is_leaving c = λ t leaves b comes. clash c.is_leaving.result (c.is_leaving.ensures c.args.image.now ∙ leaves) c.if-not-is_leaving.true
