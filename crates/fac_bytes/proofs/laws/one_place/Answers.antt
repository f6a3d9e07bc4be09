use Rattle.fac_spelling.proofs.WholeLaws.{one_place}
use Rattle.fac_bytes.specs.ImageBytes.{image}
use Rattle.fac_bytes.proofs.laws.one_place.Goals as goal

pub returns : goal.returns
returns c = one_place image
