use Rattle.fac_judge.proofs.KnownLemmas.{read_fits, text_named}
use Rattle.fac_judge.proofs.known_texts.next_known.Goals as goal

pub returns-in-Err : goal.returns-in-Err
returns-in-Err c = c.no_next.ensures c.args.known c.args.text.now c.in-Err.ensures

pub name_forms-requires : goal.name_forms-requires
name_forms-requires c = read_fits 1 c.args.text.now c.in-Ok.forms c.in-Ok.ensures

pub returns-in-Ok : goal.returns-in-Ok
returns-in-Ok c = text_named c.args.known c.args.text.now c.in-Ok.forms c.name_forms.result c.in-Ok.ensures c.name_forms.ensures
