use Rattle.std.proofs.Common.{sym}
use Rattle.fac_spelling.proofs.AnswerLaws.{keeps_rule, breaks_rule, fault_stays}
use Rattle.fac_spelling.proofs.whole.answer_ruled.Goals as goal

pub returns-in-Err : goal.returns-in-Err
returns-in-Err g c = fault_stays g.T.Spelled.format g.T.Ruled.rule c.args.bytes.now c.in-Err.fault c.in-Err.ensures

pub returns-then-keeps : goal.returns-then-keeps
returns-then-keeps g c = keeps_rule g.T.Spelled.format g.T.Ruled.rule c.args.bytes.now c.in-Ok.value (sym c.if-keeps.ensures) c.in-Ok.ensures

pub returns-else-keeps : goal.returns-else-keeps
returns-else-keeps g c = breaks_rule g.T.Spelled.format g.T.Ruled.rule c.args.bytes.now c.in-Ok.value (sym c.if-keeps.ensures) c.in-Ok.ensures
