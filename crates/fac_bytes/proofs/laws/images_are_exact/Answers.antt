use Rattle.fac_bytes.proofs.ImageLaws.{image_exact}
use Rattle.fac_bytes.proofs.laws.images_are_exact.Goals as goal

pub returns : goal.returns
returns c = image_exact
