use Rattle.fac_judge.proofs.KnownLemmas.{knows_beginning, refuses_beginning, wanted_beginning}
use Rattle.fac_judge.proofs.known_texts.first_of_forms.Goals as goal

pub returns-in-Err : goal.returns-in-Err
returns-in-Err c = refuses_beginning c.args.forms c.in-Err.fault c.in-Err.ensures

pub returns-in-Err-begin_session : goal.returns-in-Err-begin_session
returns-in-Err-begin_session c = wanted_beginning c.args.forms

pub returns-in-Ok-begin_session : goal.returns-in-Ok-begin_session
returns-in-Ok-begin_session c = knows_beginning c.args.forms c.in-Ok.known c.in-Ok-begin_session.first c.in-Ok.ensures c.in-Ok-begin_session.ensures
