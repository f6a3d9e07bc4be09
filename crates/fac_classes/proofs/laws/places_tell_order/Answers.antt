use Rattle.fac_classes.proofs.LawLemmas.{places_order}
use Rattle.fac_classes.proofs.laws.places_tell_order.Goals as goal

pub returns : goal.returns
returns c = places_order
