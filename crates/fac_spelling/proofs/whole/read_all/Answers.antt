use Rattle.fac_spelling.proofs.AnswerLaws.{found, only, place}
use Rattle.fac_spelling.proofs.whole.read_all.Goals as goal

pub returns-clause-found : goal.returns-clause-found
returns-clause-found g c = found g.T.Spelled.format c.requires c.args.bytes.now c.answer.result c.answer.ensures

pub returns-clause-only : goal.returns-clause-only
returns-clause-only g c = λ x w. only g.T.Spelled.format c.requires c.args.bytes.now c.answer.result c.answer.ensures x w

pub returns-clause-place : goal.returns-clause-place
returns-clause-place g c = place g.T.Spelled.format c.requires c.args.bytes.now c.answer.result c.answer.ensures
