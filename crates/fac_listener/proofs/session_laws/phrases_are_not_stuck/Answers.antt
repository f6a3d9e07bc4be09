use Rattle.fac_listener.proofs.RunLemmas.{not_stuck}
use Rattle.fac_listener.proofs.session_laws.phrases_are_not_stuck.Goals as goal

pub returns : goal.returns
returns c = not_stuck c.safe_programs_are_not_stuck.ensures
