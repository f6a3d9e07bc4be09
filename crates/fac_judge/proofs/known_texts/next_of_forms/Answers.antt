use Rattle.fac_judge.proofs.KnownLemmas.{wanted_next}
use Rattle.fac_judge.proofs.known_texts.next_of_forms.Goals as goal

pub returns-in-Err : goal.returns-in-Err
returns-in-Err c = wanted_next c.args.known c.args.forms

pub returns-in-Ok : goal.returns-in-Ok
returns-in-Ok c = c.resolve_text.ensures c.args.known c.in-Ok.ensures
