use Rattle.fac_judge.proofs.KnownLemmas.{next_by, next_refused}
use Rattle.fac_judge.proofs.known_texts.name_forms.Goals as goal

pub returns-in-Err-Name : goal.returns-in-Err-Name
returns-in-Err-Name c = next_refused c.args.known c.args.forms c.in-Err-Name.fault (rw c.in-Err-Name.field-0-is at c.in-Err-Name.ensures)

pub returns-in-Ok : goal.returns-in-Ok
returns-in-Ok c = next_by c.args.known c.args.forms c.in-Ok.next c.in-Ok.ensures
