use Rattle.fac_listener.proofs.GoOnLemmas.{begins_with}
use Rattle.fac_listener.proofs.session_laws.machines_begin.Goals as goal

pub returns : goal.returns
returns c = begins_with c.first_arrays_stand.ensures
