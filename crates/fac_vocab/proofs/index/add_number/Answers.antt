use Rattle.std.proofs.Common.{arith}
use Rattle.std.proofs.lemmas.Grind.{text_groups}
use Rattle.fac_vocab.proofs.index.add_number.Goals as goal

pub returns-in_err-push-clause-err : goal.returns-in_err-push-clause-err
returns-in_err-push-clause-err c = λ q. grind (arith, text_groups)

pub returns-clause-ok : goal.returns-clause-ok
returns-clause-ok c = λ q. grind (arith, text_groups)
