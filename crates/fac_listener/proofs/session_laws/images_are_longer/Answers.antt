use Rattle.fac_listener.proofs.GoOnLemmas.{longer_image}
use Rattle.fac_listener.proofs.session_laws.images_are_longer.Goals as goal

pub returns : goal.returns
returns c = longer_image c.images_go_on.ensures
