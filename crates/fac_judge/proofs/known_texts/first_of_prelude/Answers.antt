use Rattle.fac_prelude.specs.PreludeText.{prelude_text}
use Rattle.fac_judge.proofs.KnownLemmas.{first_refused, is_first, read_fits}
use Rattle.fac_judge.proofs.known_texts.first_of_prelude.Goals as goal

pub first_of_forms-requires : goal.first_of_forms-requires
first_of_forms-requires c = read_fits 0 prelude_text c.args.forms c.requires

pub returns-in-Err-Name : goal.returns-in-Err-Name
returns-in-Err-Name c = first_refused c.args.forms c.in-Err-Name.fault c.requires (rw c.in-Err-Name.field-0-is at c.in-Err-Name.ensures)

pub returns-in-Ok : goal.returns-in-Ok
returns-in-Ok c = is_first c.args.forms c.in-Ok.first c.requires c.in-Ok.ensures
