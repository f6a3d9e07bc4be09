use Rattle.fac_spelling.proofs.AnswerLaws.{left_le, rest_le}
use Rattle.fac_spelling.proofs.whole.answer.Goals as goal

pub overflow_sub-result : goal.overflow_sub-result
overflow_sub-result g c = left_le g.T.Spelled.format c.requires c.args.bytes.now c.in-Err-Refused.left (rw c.in-Err-Refused.field-0-is at c.in-Err-Refused.ensures)

pub overflow_sub-result-then-not-is_empty : goal.overflow_sub-result-then-not-is_empty
overflow_sub-result-then-not-is_empty g c = rest_le g.T.Spelled.format c.requires c.args.bytes.now c.in-Ok.value c.in-Ok.rest.now c.in-Ok.ensures
