use Rattle.fac_listener.proofs.GoOnLemmas.{made_first}
use Rattle.fac_listener.proofs.session.first_machine.Goals as goal

pub returns : goal.returns
returns g c = made_first c.machines_begin.ensures c.args.checked.closed c.in_ok-image.image c.new.result c.in_ok-image.ensures c.new.ensures
