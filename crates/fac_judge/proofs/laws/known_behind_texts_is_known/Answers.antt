use Rattle.fac_judge.proofs.KnownLemmas.{behind_is_known}
use Rattle.fac_judge.proofs.laws.known_behind_texts_is_known.Goals as goal

pub returns : goal.returns
returns c = behind_is_known c.files_are_known.ensures c.known_goes_on.ensures c.sessions_begin_known.ensures
