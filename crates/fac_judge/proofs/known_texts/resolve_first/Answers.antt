use Rattle.std.proofs.Common.{[], ◌∷◌}
use Rattle.fac_judge.proofs.KnownLemmas.{knows_prelude, wanted_prelude}
use Rattle.fac_judge.proofs.known_texts.resolve_first.Goals as goal

pub returns-in-Err : goal.returns-in-Err
returns-in-Err c = wanted_prelude c.args.forms

pub returns-in-Ok : goal.returns-in-Ok
returns-in-Ok c = knows_prelude c.args.forms c.known.result (c.known.ensures (c.args.forms ∷ []) (c.requires.forms, tt) c.in-Ok.ensures)
