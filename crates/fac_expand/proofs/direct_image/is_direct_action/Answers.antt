use Rattle.std.proofs.Common.{sym, ◌∙◌}
use Rattle.fac_expand.proofs.DirectThere.{action_direct}
use Rattle.fac_expand.proofs.direct_image.is_direct_action.Goals as goal

pub returns-in-Some : goal.returns-in-Some
returns-in-Some c =
    action_direct c.args.plain.now c.args.uses.now c.args.image.now c.args.word c.args.action c.in-Some.from c.in-Code.to c.in-Code.is c.code_of.result c.in-Some.is c.code_of.ensures c.is_direct_place.result c.is_direct_place.ensures
