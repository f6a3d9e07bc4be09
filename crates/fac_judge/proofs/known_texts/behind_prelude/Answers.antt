use Rattle.fac_judge.proofs.KnownLemmas.{behind_none}
use Rattle.fac_judge.proofs.known_texts.behind_prelude.Goals as goal

pub returns-in-Ok : goal.returns-in-Ok
returns-in-Ok c = behind_none c.in-Ok.first c.in-Ok.ensures
