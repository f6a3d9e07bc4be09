use Rattle.fac_token.proofs.AnswerLemmas as lemma
use Rattle.fac_token.proofs.laws.one_answer.Goals as goal

pub returns : goal.returns
returns c = lemma.one_answer
