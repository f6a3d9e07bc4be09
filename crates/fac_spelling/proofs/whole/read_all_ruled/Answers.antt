use Rattle.fac_spelling.proofs.AnswerLaws.{found_by, only_by, place_by}
use Rattle.fac_spelling.proofs.whole.read_all_ruled.Goals as goal

pub returns-clause-found : goal.returns-clause-found
returns-clause-found g c = found_by g.T.Spelled.format g.T.Ruled.rule c.requires c.args.bytes.now c.answer_ruled.result c.answer_ruled.ensures

pub returns-clause-only : goal.returns-clause-only
returns-clause-only g c = λ x w. only_by g.T.Spelled.format g.T.Ruled.rule c.requires c.args.bytes.now c.answer_ruled.result c.answer_ruled.ensures x w

pub returns-clause-place : goal.returns-clause-place
returns-clause-place g c = place_by g.T.Spelled.format g.T.Ruled.rule c.requires c.args.bytes.now c.answer_ruled.result c.answer_ruled.ensures
