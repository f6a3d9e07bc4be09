use Rattle.std.proofs.Common.{[]}
use Rattle.fac_judge.proofs.KnownLemmas.{are_forms}
use Rattle.fac_judge.proofs.known_texts.take_prelude.Goals as goal

pub take-requires : goal.take-requires
take-requires c = are_forms c.args.forms c.requires.forms

pub returns-in-Ok : goal.returns-in-Ok
returns-in-Ok c = c.take.ensures [] [] (c.in-Ok.ensures [] c.requires.none)
