use Rattle.std.proofs.Common.{[]}
use Rattle.fac_judge.proofs.KnownLemmas.{are_forms, knows_next, wanted_next}
use Rattle.fac_judge.proofs.known_texts.resolve_text.Goals as goal

pub take-requires : goal.take-requires
take-requires c = are_forms c.args.forms c.requires

pub returns-in-Err : goal.returns-in-Err
returns-in-Err c = λ known taken. wanted_next known c.args.forms

pub returns-in-Ok : goal.returns-in-Ok
returns-in-Ok c = λ known taken. knows_next known c.args.forms c.end.result (c.end.ensures known c.args.forms c.requires (c.in-Ok.ensures known [] taken))
