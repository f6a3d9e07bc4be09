use Rattle.fac_token.proofs.FileAnswers.{file_answer}
use Rattle.fac_token.proofs.laws.every_file_has_an_answer.Goals as goal

pub returns : goal.returns
returns c = file_answer
